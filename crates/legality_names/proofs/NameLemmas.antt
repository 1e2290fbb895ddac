-- Names in several lists, and in several scopes.
use Rattle.std.proofs.Common.{◌≡◌, ℕ, Bool, true, false, List, [], ◌∷◌, ◌++◌, Option, Some, None, refl, ◌∙◌, ap, append_assoc}
use Rattle.std.specs.Prelude.{◌||◌, if◌then◌else◌}
use Rattle.std.specs.Str.{bytes_eq}
use Rattle.legality_rules.specs.declared.scope.Known.{Known}
use Rattle.legality_rules.specs.Scopes.{Scope, is_in, look_up}

or_assoc : (a b c : Bool) → (a || (b || c)) ≡ ((a || b) || c)
or_assoc true b c = refl
or_assoc false b c = refl

pub one_of_both : (xs ys : List (List ℕ)) (n : List ℕ) → is_in (xs ++ ys) n ≡ (is_in xs n || is_in ys n)
one_of_both [] ys n = refl
one_of_both (x ∷ xs) ys n = ap (λ b. bytes_eq n x || b) (one_of_both xs ys n) ∙ or_assoc (bytes_eq n x) (is_in xs n) (is_in ys n)

pub one_of_three : (xs ys zs : List (List ℕ)) (n : List ℕ) → is_in ((xs ++ ys) ++ zs) n ≡ (is_in xs n || (is_in ys n || is_in zs n))
one_of_three xs ys zs n =
    ap (λ ns. is_in ns n) (append_assoc xs ys zs) ∙ one_of_both xs (ys ++ zs) n ∙ ap (λ b. is_in xs n || b) (one_of_both ys zs n)

-- ---- what a name is found as in one scope behind another

abbrev pub found_or : Option Known → Option Known → Option Known
found_or (Some x) other = Some x
found_or None other = other

look_one : (t : Bool) (x : Known) (f g : Option Known) → f ≡ g → (if t then Some x else f) ≡ (if t then Some x else g)
look_one true x f g e = refl
look_one false x f g e = e

look_step : (t : Bool) (x : Known) (f other : Option Known) → (if t then Some x else found_or f other) ≡ found_or (if t then Some x else f) other
look_step true x f other = refl
look_step false x f other = refl

pub look_joined : (scope more : Scope) (m : List ℕ) → look_up (scope ++ more) m ≡ found_or (look_up scope m) (look_up more m)
look_joined [] more m = refl
look_joined (x ∷ xs) more m =
    look_one (bytes_eq m x.name) x (look_up (xs ++ more) m) (found_or (look_up xs m) (look_up more m)) (look_joined xs more m)
    ∙ look_step (bytes_eq m x.name) x (look_up xs m) (look_up more m)
