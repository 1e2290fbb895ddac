-- Lines put together from pieces.
use Rattle.std.proofs.Common.{◌≡◌, ℕ, List, ◌++◌, append_assoc, refl}

-- four pieces in a row, and a line end
pub four_pieces : (p a q b n : List ℕ) → p ++ (a ++ (q ++ (b ++ n))) ≡ p ++ a ++ q ++ b ++ n
four_pieces p a q b n = simp append_assoc refl

-- five pieces in a row, and a line end
pub five_pieces : (p a q b s n : List ℕ) → p ++ (a ++ (q ++ (b ++ (s ++ n)))) ≡ p ++ a ++ q ++ b ++ s ++ n
five_pieces p a q b s n = simp append_assoc refl

-- six pieces in a row, and a line end
pub six_pieces : (p a q b s t n : List ℕ) → p ++ (a ++ (q ++ (b ++ (s ++ (t ++ n))))) ≡ p ++ a ++ q ++ b ++ s ++ t ++ n
six_pieces p a q b s t n = simp append_assoc refl
