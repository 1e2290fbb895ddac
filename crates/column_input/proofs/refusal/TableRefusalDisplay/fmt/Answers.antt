use Rattle.std.proofs.Common.{◌≡◌, ◌++◌, ℕ, List, append_assoc, refl}
use Rattle.column_input.proofs.refusal.TableRefusalDisplay.fmt.Goals as goal

-- three numbers between three texts, as the pieces are written
nested : (p a q b r c : List ℕ) → p ++ a ++ q ++ b ++ r ++ c ≡ p ++ (a ++ (q ++ (b ++ (r ++ c))))
nested p a q b r c = rw (append_assoc (p ++ a ++ q ++ b) r c, append_assoc (p ++ a ++ q) b (r ++ c), append_assoc (p ++ a) q (b ++ (r ++ c)), append_assoc p a (q ++ (b ++ (r ++ c)))) refl

pub returns-in-Ragged-clause-writes : goal.returns-in-Ragged-clause-writes
returns-in-Ragged-clause-writes g c plain ok =
    rw (c.in-Ragged.is, nested _ _ _ _ _ _) (c.write-in-Ragged.ensures.writes plain ok)
