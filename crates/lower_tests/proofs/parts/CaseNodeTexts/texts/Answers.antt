use Rattle.lower_tests.proofs.parts.CaseNodeTexts.texts.Goals as goal

-- a node for the least part size 1
pub run_part-requires : goal.run_part-requires
run_part-requires c = (1, c.requires.node)
