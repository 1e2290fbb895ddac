-- Folding a list into a reducer.
use Rattle.std.proofs.Common.{◌≡◌, ◌≢◌, ◌+◌, List, [], ◌∷◌, ◌++◌, sym, subst, Ok, Err, ◌≤◌, ◌^◌, length, arith, append_assoc, append-nil, length-append}
use Rattle.std.specs.List.{AllByRecursion}
use Rattle.chain_stages.specs.declared.step_end.StepEnd.TheVariants.{Going, Ended, Fault}
use Rattle.transducer_kit.specs.Answers.{Answer, GoesOnWith}
use Rattle.transducer_kit.specs.Passing.{FeedsAll}
use Rattle.transducer_kit.specs.Lists.{TakesAll}
use Rattle.reducer_laws.specs.Standing.{MayTake, TakesNext}

module _ {S I : Type 0} (stands : S → List I → Type 0) (free : Type 0) where
  -- what a reducer that always goes on gives
  abbrev pub closed_gives : S → I → Answer → S → Type 0
  closed_gives old input answer new = GoesOnWith free (TakesNext stands old input new) answer

  one_more : (zs ys : List I) (y : I) (new : S) → stands new ((zs ++ y ∷ []) ++ ys) → stands new (zs ++ y ∷ ys)
  one_more zs ys y new st = subst (λ (xs : List I). stands new xs) (append_assoc zs (y ∷ []) ys) st

  no_more : (zs : List I) (old new : S) → stands old zs → new ≡ old → stands new (zs ++ [])
  no_more zs old new st e = subst (λ (xs : List I). stands new xs) (sym (append-nil zs)) (subst (λ (s : S). stands s zs) (sym e) st)

  -- a reducer that takes no memory goes on over the whole list and stands for it
  pub closed_feeds : (zs ys : List I) (after answer : Answer) (old new : S) → free → stands old zs → FeedsAll closed_gives ys after old answer new → (answer ≡ after) × stands new (zs ++ ys)
  closed_feeds zs [] after answer old new f st h = (h.0, no_more zs old new st h.1)
  closed_feeds zs (y ∷ ys) after answer old new f st (Ok Going, mid, given, h) =
      let whole = closed_feeds (zs ++ y ∷ []) ys after answer mid new f (given zs st) h in
      (whole.0, one_more zs ys y new whole.1)
  closed_feeds zs (y ∷ ys) after answer old new f st (Ok (Ended line), mid, given, h) = absurd given
  closed_feeds zs (y ∷ ys) after answer old new f st (Ok (Fault line kind), mid, given, h) = absurd given
  closed_feeds zs (y ∷ ys) after answer old new f st (Err e, mid, given, h) = absurd (given f)

  -- and any other, unless memory runs out
  pub closed_or_failed : (zs ys : List I) (after answer : Answer) (old new : S) → stands old zs → FeedsAll closed_gives ys after old answer new → answer ≢ Err (record {}) →
      (answer ≡ after) × stands new (zs ++ ys)
  closed_or_failed zs [] after answer old new st h ne = (h.0, no_more zs old new st h.1)
  closed_or_failed zs (y ∷ ys) after answer old new st (Ok Going, mid, given, h) ne =
      let whole = closed_or_failed (zs ++ y ∷ []) ys after answer mid new (given zs st) h ne in
      (whole.0, one_more zs ys y new whole.1)
  closed_or_failed zs (y ∷ ys) after answer old new st (Ok (Ended line), mid, given, h) ne = absurd given
  closed_or_failed zs (y ∷ ys) after answer old new st (Ok (Fault line kind), mid, given, h) ne = absurd given
  closed_or_failed zs (y ∷ ys) after answer old new st (Err e, mid, given, h) ne = absurd (ne h.0)

  -- it may take a list that it accepts, of at most so many inputs together with those before
  pub closed_takes : (accepts : I → Type 0) (zs ys : List I) (old : S) → stands old zs → length zs + length ys ≤ 2 ^ 62 → AllByRecursion accepts ys →
      TakesAll (λ state input. MayTake stands state × accepts input) closed_gives ys old
  closed_takes accepts zs [] old st few all = tt
  closed_takes accepts zs (y ∷ ys) old st few all =
      (((zs, st, omega arith), all.0), λ mid given. closed_takes accepts (zs ++ y ∷ []) ys mid (given zs st) (omega (arith, length-append zs (y ∷ []))) all.1)
