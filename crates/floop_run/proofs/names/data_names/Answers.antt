use Rattle.std.proofs.Common.{lit<, ap, ◌∙◌}
use Rattle.std.proofs.lemmas.Result.{IfOk-weaker}
use Rattle.std.proofs.lemmas.Iterator.Consumers.{map_from_collect}
use Rattle.std.proofs.lemmas.Iterator.Splits.{YieldsList-from_str_split}
use Rattle.floop_run.specs.Requests.{names_of}
use Rattle.floop_run.proofs.names.data_names.Goals as goal

pub returns-in-Some : goal.returns-in-Some
returns-in-Some c =
    IfOk-weaker c.collect.result _ _ (λ names is. is ∙ ap names_of c.in-Some.ensures)
    (map_from_collect c.collect.result c.collect.ensures.ran
    (YieldsList-from_str_split 44 c.in-Some.value.now (lit< tt) c.split.ensures.text c.split.ensures.has_more c.split.ensures.pattern))
