use Rattle.std.proofs.Common.{◌≡◌, ◌++◌, ℕ, List, append_assoc, refl}
use Rattle.loop_items.proofs.refusal.HeadRefusalDisplay.fmt.Goals as goal

-- two texts round a third, and four in a row, as the pieces are written
three : (p a q : List ℕ) → p ++ a ++ q ≡ p ++ (a ++ q)
three p a q = append_assoc p a q

four : (p a q b : List ℕ) → p ++ a ++ q ++ b ≡ p ++ (a ++ (q ++ b))
four p a q b = rw (append_assoc (p ++ a) q b, append_assoc p a (q ++ b)) refl

pub returns-in-NoSuchColumn-clause-writes : goal.returns-in-NoSuchColumn-clause-writes
returns-in-NoSuchColumn-clause-writes g c plain ok =
    rw (c.in-NoSuchColumn.is, four _ _ _ _) (rw c.as_str-name.ensures.bytes at (c.write.ensures.writes plain ok))

pub returns-in-ZeroStep-clause-writes : goal.returns-in-ZeroStep-clause-writes
returns-in-ZeroStep-clause-writes g c plain ok =
    rw (c.in-ZeroStep.is, three _ _ _) (c.write-in-ZeroStep.ensures.writes plain ok)
