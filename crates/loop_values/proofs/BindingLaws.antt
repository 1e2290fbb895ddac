-- A name that was bound has that value, other names have theirs, and two names may be bound in either order.
use Rattle.std.proofs.Common.{◌≡◌, ◌≢◌, ℕ, List, Bool, true, false, cond, Option, Some, Ok, refl, ap, sym, ◌∙◌}
use Rattle.std.proofs.lemmas.Cmp.{nat_list_cmp_total}
use Rattle.std.specs.Ordering.{nat_cmp, eq_by_cmp}
use Rattle.std.specs.Cmp.Lexicographic.{slice_cmp}
use Rattle.std.specs.Str.{bytes_eq}
use Rattle.std.specs.FinMap.{FinMap, get, insert, get-insert, same_map, slice_cmp-IsAntisymmetric, nat_cmp-IsAntisymmetric}
use Rattle.loop_data.specs.declared.value.Value.{Value}
use Rattle.loop_data.specs.declared.expr.Expr.TheVariants as e
use Rattle.loop_values.specs.Bindings.{Bindings, Names}
use Rattle.loop_values.specs.Operations.{Outcome}
use Rattle.loop_values.specs.Values.{value_of, bound}
use Rattle.loop_values.proofs.EntryLemmas.{at_text, same_text, same_self}
use Rattle.loop_values.proofs.Layers.{value_of-Name}

abbrev is_at : List ℕ → List ℕ → Bool
is_at q k = eq_by_cmp (slice_cmp nat_cmp) q k

apart_false : (q k : List ℕ) (b : Bool) → bytes_eq q k ≡ b → q ≢ k → b ≡ false
apart_false q k true e ne = absurd (ne (same_text q k e))
apart_false q k false e ne = refl

module _ {X : Type 0} where
  pub get-bound : (env : FinMap (slice_cmp nat_cmp) X) (n : List ℕ) (v : X) → get (insert env n v) n ≡ Some v
  get-bound env n v =
      get-insert nat_list_cmp_total env n v n ∙ ap (λ b. cond b (Some v) (get env n)) (at_text n n ∙ same_self n)

  pub get-other : (env : FinMap (slice_cmp nat_cmp) X) (m n : List ℕ) (v : X) → n ≢ m → get (insert env m v) n ≡ get env n
  get-other env m n v ne =
      get-insert nat_list_cmp_total env m v n ∙ ap (λ b. cond b (Some v) (get env n)) (at_text n m ∙ apart_false n m (bytes_eq n m) refl ne)

  swapped : (b c : Bool) (x y z : Option X) → (b ≡ true → c ≡ true → ⊥) → cond b x (cond c y z) ≡ cond c y (cond b x z)
  swapped true true x y z ne = absurd (ne refl refl)
  swapped true false x y z ne = refl
  swapped false c x y z ne = refl

  pub insert_comm : (env : FinMap (slice_cmp nat_cmp) X) (m n : List ℕ) (v w : X) → m ≢ n → insert (insert env m v) n w ≡ insert (insert env n w) m v
  insert_comm env m n v w ne =
      same_map nat_list_cmp_total (slice_cmp-IsAntisymmetric nat_cmp-IsAntisymmetric) _ _ (λ q.
      get-insert nat_list_cmp_total (insert env m v) n w q
      ∙ ap (cond (is_at q n) (Some w)) (get-insert nat_list_cmp_total env m v q)
      ∙ swapped (is_at q n) (is_at q m) (Some w) (Some v) (get env q) (λ a b. ne (sym (same_text q m (sym (at_text q m) ∙ b)) ∙ same_text q n (sym (at_text q n) ∙ a)))
      ∙ sym (ap (cond (is_at q m) (Some v)) (get-insert nat_list_cmp_total env n w q))
      ∙ sym (get-insert nat_list_cmp_total (insert env n w) m v q))

-- a name that is bound to v has the value v
pub value_of-bound : (env : Names) (n : List ℕ) (v : Value) → env n ≡ Some v → value_of (e.Name n) env ≡ Ok v
value_of-bound env n v is = value_of-Name env n ∙ ap bound is

-- the same as callers have it: n was bound to v in env', and r is what the name n gave there
pub just_bound : (env env' : Bindings) (n m : List ℕ) (v w : Value) (r : Outcome) → r ≡ value_of (e.Name m) (get env') → env' ≡ insert env n v → m ≡ n → v ≡ w → r ≡ Ok w
just_bound env env' n m v w r given is same value =
    given
    ∙ ap (λ q. value_of (e.Name q) (get env')) same
    ∙ value_of-bound (get env') n v (ap (λ b. get b n) is ∙ get-bound env n v)
    ∙ ap (λ x. Ok x) value
