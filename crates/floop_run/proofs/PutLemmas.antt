-- Puts one after another: what follows what was written.
use Rattle.std.proofs.Common.{◌≡◌, ℕ, zero, suc, ◌+◌, ◌<◌, List, [], ◌∷◌, ◌++◌, length, map, take, drop, get_or, Option, Some, None, refl, sym, ap, subst, ◌∙◌, append_assoc, arith}
use Rattle.std.specs.Prelude.{min, flat_map}
use Rattle.std.proofs.lemmas.List.{take_min, take-append-le}
use Rattle.std.proofs.Math.Seq.{take-append-add}
use Rattle.edge_io.specs.Counts.{counted, counted_times}
use Rattle.edge_io.specs.Writing.{Puts, PutsPrefix}
use Rattle.floop_run.specs.Written.{joined}
use Rattle.floop_run.specs.TopCall.{LastPutFailed}

pub Puts-append : (a b c : Option (List ℕ)) (x y : List ℕ) → Puts a b x → Puts b c y → Puts a c (x ++ y)
Puts-append None b c x y p q = subst (λ t. Puts t c y) p q
Puts-append (Some w) b c x y p q = subst (λ t. Puts t c y) p q ∙ ap Some (append_assoc w x y)

take-within : (k : ℕ) (xs ys : List ℕ) → take (min k (length xs)) (xs ++ ys) ≡ take k xs
take-within k xs ys = take-append-le (min k (length xs)) xs ys (omega arith) ∙ take_min k xs

pub PutsPrefix-after : (a b c : Option (List ℕ)) (x y z : List ℕ) → Puts a b x → PutsPrefix b c y → PutsPrefix a c (x ++ (y ++ z))
PutsPrefix-after a b c x y z p q =
    (length x + min q.0 (length y), subst (Puts a c) (sym (take-append-add x (y ++ z) _ ∙ ap (λ t. x ++ t) (take-within q.0 y z))) (Puts-append a b c x (take q.0 y) p q.1))

-- the bytes of the lines are those before line i, its own and those after it
pub flat_map-at : {X : Type 0} (f : X → List ℕ) (xs : List X) (i : ℕ) (d : X) → i < length xs → flat_map f xs ≡ flat_map f (take i xs) ++ (f (get_or xs i d) ++ flat_map f (drop (suc i) xs))
flat_map-at f [] i d lt = absurd (omega arith)
flat_map-at f (x ∷ xs) zero d lt = refl
flat_map-at f (x ∷ xs) (suc i) d lt = ap (λ l. f x ++ l) (flat_map-at f xs i d (omega arith)) ∙ sym (append_assoc (f x) _ _)

-- the lines joined are their bytes, one line after another
joined-map : {X : Type 0} (f : X → List ℕ) (xs : List X) → joined (map f xs) ≡ flat_map f xs
joined-map f [] = refl
joined-map f (x ∷ xs) = ap (λ l. f x ++ l) (joined-map f xs)

-- a put of line i that kept a prefix, after those before it were put
pub PutsPrefix-at : {X : Type 0} (f : X → List ℕ) (xs : List X) (i : ℕ) (x : X) (piece : List ℕ) (a b c : Option (List ℕ)) → i < length xs → x ≡ get_or xs i x → piece ≡ f x → Puts a b (joined (map f (take i xs))) → PutsPrefix b c piece
    → PutsPrefix a c (joined (map f xs))
PutsPrefix-at f xs i x piece a b c lt here is before kept =
    let put : Puts a b (flat_map f (take i xs)) = subst (Puts a b) (joined-map f (take i xs)) before in
    subst (PutsPrefix a c) (sym (joined-map f xs ∙ flat_map-at f xs i x lt)) (PutsPrefix-after a b c _ (f (get_or xs i x)) _ put (subst (PutsPrefix b c) (is ∙ ap f here) kept))

-- the lines are those before line i, its own and those after it
map-at : {X : Type 0} (f : X → List ℕ) (xs : List X) (i : ℕ) (d : X) → i < length xs → map f xs ≡ map f (take i xs) ++ f (get_or xs i d) ∷ map f (drop (suc i) xs)
map-at f [] i d lt = absurd (omega arith)
map-at f (x ∷ xs) zero d lt = refl
map-at f (x ∷ xs) (suc i) d lt = ap (λ l. f x ∷ l) (map-at f xs i d (omega arith))

length-before : {X : Type 0} (f : X → List ℕ) (xs : List X) (i : ℕ) → i < length xs → length (map f (take i xs)) ≡ i
length-before f [] i lt = absurd (omega arith)
length-before f (x ∷ xs) zero lt = refl
length-before f (x ∷ xs) (suc i) lt = ap suc (length-before f xs i (omega arith))

-- the put of line i failed, after those before it were put, each by one put
pub LastPutFailed-at : {X : Type 0} (f : X → List ℕ) (xs : List X) (i : ℕ) (x : X) (piece : List ℕ) (a b c : Option (List ℕ)) (before now after : ℕ) → i < length xs → x ≡ get_or xs i x → piece ≡ f x
    → Puts a b (joined (map f (take i xs))) → PutsPrefix b c piece → now ≡ counted_times i before → after ≡ counted now → LastPutFailed (map f xs) a c before after
LastPutFailed-at f xs i x piece a b c before now after lt here is put kept count next =
    record {
      whole = map f (take i xs);
      failed = f (get_or xs i x);
      after = map f (drop (suc i) xs);
      kept = kept.0;
      split = map-at f xs i x lt;
      text = Puts-append a b c (joined (map f (take i xs))) (take kept.0 (f (get_or xs i x))) put (subst (λ line. Puts b c (take kept.0 line)) (is ∙ ap f here) kept.1);
      count = next ∙ ap counted (count ∙ ap (λ n. counted_times n before) (sym (length-before f xs i lt)));
    }
