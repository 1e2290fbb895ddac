-- Folding a list through a stage is folding what the stage makes of the whole list.
use Rattle.std.proofs.Common.{◌≡◌, ◌≢◌, ◌≤◌, ℕ, zero, suc, ◌+◌, false, List, [], ◌∷◌, ◌++◌, refl, sym, ap, subst, ◌∙◌, append_assoc, Result, Ok, Err, arith}
use Rattle.std.specs.List.{AllByRecursion}
use Rattle.chain_stages.specs.declared.step_end.StepEnd.TheVariants.{Going, Ended, Fault}
use Rattle.transducer_kit.specs.declared.answers.PassStop.{PassStop}
use Rattle.transducer_kit.specs.Answers.{Answer, if_going, is_going}
use Rattle.transducer_kit.specs.Passing.{Passed, Feeds, FeedsAll, StageGives, StageTakes, one_made}
use Rattle.transducer_kit.specs.Spreading.{FeedsElements, TakesElements}
use Rattle.transducer_kit.specs.Lists.{Agrees, AgreesButForMemory, ElementsAgree, ElementsAgreeButForMemory, MayMake, TakesAll, elements, list_output, out_of_memory, spread_of, then_items}
use Rattle.transducer_kit.proofs.Feeding.{if_going_map}

-- three lists one after another
followed_assoc : {Y : Type 0} (ys zs : List Y) (a b : Answer) (c : Passed Y) → then_items (then_items ys a (zs, b)).0 (then_items ys a (zs, b)).1 c ≡ then_items ys a (then_items zs b c)
followed_assoc ys zs (Ok Going) (Ok Going) c = ap (λ l. (l, c.1)) (append_assoc ys zs c.0)
followed_assoc ys zs (Ok Going) (Ok (Ended line)) c = refl
followed_assoc ys zs (Ok Going) (Ok (Fault line kind)) c = refl
followed_assoc ys zs (Ok Going) (Err e) c = refl
followed_assoc ys zs (Ok (Ended line)) b c = refl
followed_assoc ys zs (Ok (Fault line kind)) b c = refl
followed_assoc ys zs (Err e) b c = refl

module _ {S Y : Type 0} (gives : S → Y → Answer → S → Type 0) where
  -- what comes after an answer, said of the same answer and the same state
  moved : (zs : List Y) (after a b : Answer) (s t : S) (answer : Answer) (new : S) → a ≡ b → s ≡ t →
      if_going a (FeedsAll gives zs after s answer new) ((answer ≡ a) × (new ≡ s)) → if_going b (FeedsAll gives zs after t answer new) ((answer ≡ b) × (new ≡ t))
  moved zs after a b s t answer new p q k =
      let P : Answer → S → Type 0 = λ a s. if_going a (FeedsAll gives zs after s answer new) ((answer ≡ a) × (new ≡ s)) in
      subst (λ (s : S). P b s) q (subst (λ (a : Answer). P a s) p k)

  -- items that are all taken are followed by what comes next
  feeds_append : (ys zs : List Y) (after : Answer) (old : S) (first : Answer) (mid : S) (answer : Answer) (new : S) →
      FeedsAll gives ys (Ok Going) old first mid → if_going first (FeedsAll gives zs after mid answer new) ((answer ≡ first) × (new ≡ mid)) →
      FeedsAll gives (ys ++ zs) after old answer new
  feeds_append [] zs after old first mid answer new h k = moved zs after first (Ok Going) mid old answer new h.0 h.1 k
  feeds_append (y ∷ ys) zs after old first mid answer new (Ok Going, m, given, h) k =
      (Ok Going, m, given, feeds_append ys zs after m first mid answer new h k)
  feeds_append (y ∷ ys) zs after old first mid answer new (Ok (Ended line), m, given, h) k =
      (Ok (Ended line), m, given, moved zs after first (Ok (Ended line)) mid m answer new h.0 h.1 k)
  feeds_append (y ∷ ys) zs after old first mid answer new (Ok (Fault line kind), m, given, h) k =
      (Ok (Fault line kind), m, given, moved zs after first (Ok (Fault line kind)) mid m answer new h.0 h.1 k)
  feeds_append (y ∷ ys) zs after old first mid answer new (Err e, m, given, h) k =
      (Err e, m, given, moved zs after first (Err e) mid m answer new h.0 h.1 k)

  -- items after which the answer isn't to go on are not answered by going on
  stays_stopped : (ys : List Y) (after : Answer) (old : S) (first : Answer) (mid : S) → is_going after ≡ false → FeedsAll gives ys after old first mid → is_going first ≡ false
  stays_stopped [] after old first mid e h = ap is_going h.0 ∙ e
  stays_stopped (y ∷ ys) after old first mid e (Ok Going, m, given, h) = stays_stopped ys after m first mid e h
  stays_stopped (y ∷ ys) after old first mid e (Ok (Ended line), m, given, h) = ap is_going h.0
  stays_stopped (y ∷ ys) after old first mid e (Ok (Fault line kind), m, given, h) = ap is_going h.0
  stays_stopped (y ∷ ys) after old first mid e (Err x, m, given, h) = ap is_going h.0

  -- what comes after an answer that isn't to go on is that answer
  same_answer : (P : Type 0) (first : Answer) (mid : S) (answer : Answer) (new : S) → is_going first ≡ false → if_going first P ((answer ≡ first) × (new ≡ mid)) → (first ≡ answer) × (mid ≡ new)
  same_answer P (Ok Going) mid answer new e k = absurd (cc)
  same_answer P (Ok (Ended line)) mid answer new e k = (sym k.0, sym k.1)
  same_answer P (Ok (Fault line kind)) mid answer new e k = (sym k.0, sym k.1)
  same_answer P (Err x) mid answer new e k = (sym k.0, sym k.1)

  stopped_there : (ys : List Y) (after : Answer) (P : Type 0) (old : S) (first : Answer) (mid : S) (answer : Answer) (new : S) → is_going after ≡ false →
      FeedsAll gives ys after old first mid → if_going first P ((answer ≡ first) × (new ≡ mid)) → FeedsAll gives ys after old answer new
  stopped_there ys after P old first mid answer new e h k =
      let same = same_answer P first mid answer new (stays_stopped ys after old first mid e h) k in
      subst (λ (s : S). FeedsAll gives ys after old answer s) same.1 (subst (λ (a : Answer). FeedsAll gives ys after old a mid) same.0 h)

  -- what a stage lets through for an item, followed by what comes next where it goes on
  pub feeds_then : (ys : List Y) (after : Answer) (rest : Passed Y) (old : S) (first : Answer) (mid : S) (answer : Answer) (new : S) →
      FeedsAll gives ys after old first mid → if_going first (Feeds gives rest mid answer new) ((answer ≡ first) × (new ≡ mid)) →
      Feeds gives (then_items ys after rest) old answer new
  feeds_then ys (Ok Going) rest old first mid answer new h k = feeds_append ys rest.0 rest.1 old first mid answer new h k
  feeds_then ys (Ok (Ended line)) rest old first mid answer new h k = stopped_there ys (Ok (Ended line)) _ old first mid answer new refl h k
  feeds_then ys (Ok (Fault line kind)) rest old first mid answer new h k = stopped_there ys (Ok (Fault line kind)) _ old first mid answer new refl h k
  feeds_then ys (Err e) rest old first mid answer new h k = stopped_there ys (Err e) _ old first mid answer new refl h k

  -- want of memory in a closure is the answer of the whole
  ends_full : (P : Type 0) (passed : Passed Y) (old : S) (first : Answer) (mid : S) (answer : Answer) (Q : Type 0) → passed ≡ out_of_memory → Feeds gives passed old first mid →
      if_going first P ((answer ≡ first) × Q) → answer ≡ Err (record {})
  ends_full P passed old first mid answer Q e fed h =
      let full = subst (λ (p : Passed Y). Feeds gives p old first mid) e fed in
      (subst (λ (a : Answer). if_going a P ((answer ≡ a) × Q)) full.0 h).0

  module _ {X Made : Type 0} (answers : X → Made → Type 0) (through : X → Made → Passed Y) (stage : X → Passed Y) where
    -- what the wrapper gives over a list is what the inner function gives over what the stage makes of the whole list
    pub fused : (xs : List X) (after answer : Answer) (old new : S) → AllByRecursion (Agrees answers through stage) xs →
        FeedsAll (StageGives answers through gives) xs after old answer new → Feeds gives (list_output stage xs after) old answer new
    fused [] after answer old new agrees h = h
    fused (x ∷ xs) after answer old new agrees (first, mid, given, h) =
        feeds_then (stage x).0 (stage x).1 (list_output stage xs after) old first mid answer new
        (subst (λ (p : Passed Y). Feeds gives p old first mid) (agrees.0 given.0 given.1) given.2)
        (if_going_map first _ _ _ (λ k. fused xs after answer mid new agrees.1 k) h)

    -- the same unless memory ran out
    pub fused_or_failed : (xs : List X) (after answer : Answer) (old new : S) → AllByRecursion (AgreesButForMemory answers through stage) xs →
        FeedsAll (StageGives answers through gives) xs after old answer new → answer ≢ Err (record {}) → Feeds gives (list_output stage xs after) old answer new
    fused_or_failed [] after answer old new agrees h ne = h
    fused_or_failed (x ∷ xs) after answer old new agrees (first, mid, given, h) ne =
        let same = agrees.0 given.0 given.1 (λ full. ne (ends_full _ (through x given.0) old first mid answer _ full given.2 h)) in
        feeds_then (stage x).0 (stage x).1 (list_output stage xs after) old first mid answer new
        (subst (λ (p : Passed Y). Feeds gives p old first mid) same given.2)
        (if_going_map first _ _ _ (λ k. fused_or_failed xs after answer mid new agrees.1 k ne) h)

  -- elements made one after another are what the inner function takes
  pub feeds_elements : (makes : ℕ → Result Y PassStop → Type 0) (element : ℕ → Passed Y) (k n : ℕ) (old : S) (answer : Answer) (new : S) →
      ((j : ℕ) → k ≤ j → j + 1 ≤ k + n → Agrees makes one_made element j) → FeedsElements makes gives k n old answer new → Feeds gives (elements element k n) old answer new
  feeds_elements makes element k zero old answer new agrees h = h
  feeds_elements makes element k (suc n) old answer new agrees (first, mid, given, h) =
      feeds_then (element k).0 (element k).1 (elements element (k + 1) n) old first mid answer new
      (subst (λ (p : Passed Y). Feeds gives p old first mid) (agrees k (omega arith) (omega arith) given.0 given.1) given.2)
      (if_going_map first _ _ _ (λ r. feeds_elements makes element (k + 1) n mid answer new (λ j least most. agrees j (omega arith) (omega arith)) r) h)

  feeds_elements_or_failed : (makes : ℕ → Result Y PassStop → Type 0) (element : ℕ → Passed Y) (k n : ℕ) (old : S) (answer : Answer) (new : S) →
      ((j : ℕ) → k ≤ j → j + 1 ≤ k + n → AgreesButForMemory makes one_made element j) → FeedsElements makes gives k n old answer new → answer ≢ Err (record {}) →
      Feeds gives (elements element k n) old answer new
  feeds_elements_or_failed makes element k zero old answer new agrees h ne = h
  feeds_elements_or_failed makes element k (suc n) old answer new agrees (first, mid, given, h) ne =
      let same = agrees k (omega arith) (omega arith) given.0 given.1 (λ full. ne (ends_full _ (one_made k given.0) old first mid answer _ full given.2 h)) in
      feeds_then (element k).0 (element k).1 (elements element (k + 1) n) old first mid answer new
      (subst (λ (p : Passed Y). Feeds gives p old first mid) same given.2)
      (if_going_map first _ _ _ (λ r. feeds_elements_or_failed makes element (k + 1) n mid answer new (λ j least most. agrees j (omega arith) (omega arith)) r ne) h)

  -- what comes after want of memory is that
  full_stays : (first : Answer) (mid : S) (P : Type 0) (answer : Answer) (new : S) → if_going first P ((answer ≡ first) × (new ≡ mid)) → answer ≢ Err (record {}) → first ≢ Err (record {})
  full_stays (Ok Going) mid P answer new h ne e = absurd (cc (e))
  full_stays (Ok (Ended line)) mid P answer new h ne e = absurd (cc (e))
  full_stays (Ok (Fault line kind)) mid P answer new h ne e = absurd (cc (e))
  full_stays (Err x) mid P answer new h ne e = ne (h.0 ∙ e)

  module _ {A : Type 0} (makes : A → ℕ → Result Y PassStop → Type 0) (element : A → ℕ → Passed Y) where
    -- a wrapper over a list of values with their counts
    pub fused_elements : (xs : List (A × ℕ)) (after answer : Answer) (old new : S) → AllByRecursion (ElementsAgree makes element) xs →
        FeedsAll (λ old x. FeedsElements (makes x.0) gives 1 x.1 old) xs after old answer new → Feeds gives (list_output (spread_of element) xs after) old answer new
    fused_elements [] after answer old new agrees h = h
    fused_elements (x ∷ xs) after answer old new agrees (first, mid, given, h) =
        let passed = elements (element x.0) 1 x.1 in
        feeds_then passed.0 passed.1 (list_output (spread_of element) xs after) old first mid answer new
        (feeds_elements (makes x.0) (element x.0) 1 x.1 old first mid (λ j least most. agrees.0 j least (omega arith)) given)
        (if_going_map first _ _ _ (λ k. fused_elements xs after answer mid new agrees.1 k) h)

    pub fused_elements_or_failed : (xs : List (A × ℕ)) (after answer : Answer) (old new : S) → AllByRecursion (ElementsAgreeButForMemory makes element) xs →
        FeedsAll (λ old x. FeedsElements (makes x.0) gives 1 x.1 old) xs after old answer new → answer ≢ Err (record {}) →
        Feeds gives (list_output (spread_of element) xs after) old answer new
    fused_elements_or_failed [] after answer old new agrees h ne = h
    fused_elements_or_failed (x ∷ xs) after answer old new agrees (first, mid, given, h) ne =
        let passed = elements (element x.0) 1 x.1 in
        feeds_then passed.0 passed.1 (list_output (spread_of element) xs after) old first mid answer new
        (feeds_elements_or_failed (makes x.0) (element x.0) 1 x.1 old first mid (λ j least most. agrees.0 j least (omega arith)) given (full_stays first mid _ answer new h ne))
        (if_going_map first _ _ _ (λ k. fused_elements_or_failed xs after answer mid new agrees.1 k ne) h)

  module _ (takes : S → Y → Type 0) where
    -- what may be taken after items that were all taken
    takes_append : (ys zs : List Y) (old mid : S) → TakesAll takes gives (ys ++ zs) old → FeedsAll gives ys (Ok Going) old (Ok Going) mid → TakesAll takes gives zs mid
    takes_append [] zs old mid t h = subst (λ (s : S). TakesAll takes gives zs s) (sym h.1) t
    takes_append (y ∷ ys) zs old mid t (Ok Going, m, given, h) = takes_append ys zs m mid (t.1 m given) h
    takes_append (y ∷ ys) zs old mid t (Ok (Ended line), m, given, h) = absurd (cc (h.0))
    takes_append (y ∷ ys) zs old mid t (Ok (Fault line kind), m, given, h) = absurd (cc (h.0))
    takes_append (y ∷ ys) zs old mid t (Err e, m, given, h) = absurd (cc (h.0))

    takes_then : (ys : List Y) (after : Answer) (rest : Passed Y) (old mid : S) → TakesAll takes gives (then_items ys after rest).0 old → FeedsAll gives ys after old (Ok Going) mid → TakesAll takes gives rest.0 mid
    takes_then ys (Ok Going) rest old mid t h = takes_append ys rest.0 old mid t h
    takes_then ys (Ok (Ended line)) rest old mid t h = absurd (cc (stays_stopped ys (Ok (Ended line)) old (Ok Going) mid refl h))
    takes_then ys (Ok (Fault line kind)) rest old mid t h = absurd (cc (stays_stopped ys (Ok (Fault line kind)) old (Ok Going) mid refl h))
    takes_then ys (Err e) rest old mid t h = absurd (cc (stays_stopped ys (Err e) old (Ok Going) mid refl h))

    takes_one : (y : Y) (after : Answer) (rest : Passed Y) (old : S) → TakesAll takes gives (then_items (y ∷ []) after rest).0 old → takes old y
    takes_one y (Ok Going) rest old t = t.0
    takes_one y (Ok (Ended line)) rest old t = t.0
    takes_one y (Ok (Fault line kind)) rest old t = t.0
    takes_one y (Err e) rest old t = t.0

    -- a step that goes on let through what the stage lets through
    went_by_stage : (passed wanted : Passed Y) (old mid : S) → (passed ≢ out_of_memory → passed ≡ wanted) → Feeds gives passed old (Ok Going) mid → passed ≡ wanted
    went_by_stage passed wanted old mid same fed =
        same (λ full. let h = subst (λ (p : Passed Y). Feeds gives p old (Ok Going) mid) full fed in absurd (cc (h.0)))

    one_isnt_none : (passed wanted : Passed Y) (y : Y) → (passed ≢ out_of_memory → passed ≡ wanted) → passed.0 ≡ y ∷ [] → wanted.0 ≡ y ∷ []
    one_isnt_none passed wanted y same e =
        sym (ap (λ (p : Passed Y). p.0) (same (λ full. let h : ◌≡◌ {A = List Y} [] (y ∷ []) = sym (ap (λ (p : Passed Y). p.0) full) ∙ e in absurd (cc (h))))) ∙ e

    module _ {X Made : Type 0} (answers : X → Made → Type 0) (through : X → Made → Passed Y) (stage : X → Passed Y) (may : X → Type 0) where
      -- a wrapper may take the items of a list where the inner function may take what the stage makes of the whole list
      pub takes_fused : (xs : List X) (after : Answer) (old : S) → AllByRecursion may xs → AllByRecursion (AgreesButForMemory answers through stage) xs →
          TakesAll takes gives (list_output stage xs after).0 old → TakesAll (StageTakes may answers through takes) (StageGives answers through gives) xs old
      takes_fused [] after old m agrees t = tt
      takes_fused (x ∷ xs) after old m agrees t = (
        (
          m.0,
          λ made y a e.
              takes_one y (stage x).1 (list_output stage xs after) old
              (subst (λ (ys : List Y). TakesAll takes gives (then_items ys (stage x).1 (list_output stage xs after)).0 old)
              (one_isnt_none (through x made) (stage x) y (agrees.0 made a) e) t),
        ),
        λ mid given.
            takes_fused xs after mid m.1 agrees.1
            (takes_then (stage x).0 (stage x).1 (list_output stage xs after) old mid t
            (subst (λ (p : Passed Y). Feeds gives p old (Ok Going) mid) (went_by_stage (through x given.0) (stage x) old mid (agrees.0 given.0 given.1) given.2) given.2)),
      )

    -- elements may be made and taken where the inner function may take them with what follows
    takes_elements : (may : ℕ → Type 0) (makes : ℕ → Result Y PassStop → Type 0) (element : ℕ → Passed Y) (rest : Passed Y) (k n : ℕ) (old : S) →
        ((j : ℕ) → k ≤ j → j + 1 ≤ k + n → may j) → ((j : ℕ) → k ≤ j → j + 1 ≤ k + n → AgreesButForMemory makes one_made element j) →
        TakesAll takes gives (then_items (elements element k n).0 (elements element k n).1 rest).0 old → TakesElements may makes takes gives k n old
    takes_elements may makes element rest k zero old m agrees t = tt
    takes_elements may makes element rest k (suc n) old m agrees t =
        let more = elements element (k + 1) n in
        let t' = subst (λ (p : Passed Y). TakesAll takes gives p.0 old) (followed_assoc (element k).0 more.0 (element k).1 more.1 rest) t in (
          (
            m k (omega arith) (omega arith),
            λ made y a e.
                takes_one y (element k).1 (then_items more.0 more.1 rest) old
                (subst (λ (ys : List Y). TakesAll takes gives (then_items ys (element k).1 (then_items more.0 more.1 rest)).0 old)
                (one_isnt_none (one_made k made) (element k) y (agrees k (omega arith) (omega arith) made a) e) t'),
          ),
          λ mid given.
              takes_elements may makes element rest (k + 1) n mid (λ j least most. m j (omega arith) (omega arith)) (λ j least most. agrees j (omega arith) (omega arith))
              (takes_then (element k).0 (element k).1 (then_items more.0 more.1 rest) old mid t'
              (subst (λ (p : Passed Y). Feeds gives p old (Ok Going) mid)
              (went_by_stage (one_made k given.0) (element k) old mid (agrees k (omega arith) (omega arith) given.0 given.1) given.2) given.2)),
        )

    -- the elements after which the fold goes on
    went_elements : (makes : ℕ → Result Y PassStop → Type 0) (element : ℕ → Passed Y) (k n : ℕ) (old mid : S) →
        ((j : ℕ) → k ≤ j → j + 1 ≤ k + n → AgreesButForMemory makes one_made element j) → FeedsElements makes gives k n old (Ok Going) mid →
        Feeds gives (elements element k n) old (Ok Going) mid
    went_elements makes element k n old mid agrees h = feeds_elements_or_failed makes element k n old (Ok Going) mid agrees h (λ e. absurd (cc (e)))

    pub takes_fused_elements : {A : Type 0} (may : A → ℕ → Type 0) (makes : A → ℕ → Result Y PassStop → Type 0) (element : A → ℕ → Passed Y) (xs : List (A × ℕ)) (after : Answer) (old : S) →
        AllByRecursion (MayMake may) xs → AllByRecursion (ElementsAgreeButForMemory makes element) xs → TakesAll takes gives (list_output (spread_of element) xs after).0 old →
        TakesAll (λ state x. TakesElements (may x.0) (makes x.0) takes gives 1 x.1 state) (λ old x. FeedsElements (makes x.0) gives 1 x.1 old) xs old
    takes_fused_elements may makes element [] after old m agrees t = tt
    takes_fused_elements may makes element (x ∷ xs) after old m agrees t =
        let passed = elements (element x.0) 1 x.1 in
        let rest = list_output (spread_of element) xs after in (
          takes_elements (may x.0) (makes x.0) (element x.0) rest 1 x.1 old (λ j least most. m.0 j least (omega arith)) (λ j least most. agrees.0 j least (omega arith)) t,
          λ mid given.
              takes_fused_elements may makes element xs after mid m.1 agrees.1
              (takes_then passed.0 passed.1 rest old mid t (went_elements (makes x.0) (element x.0) 1 x.1 old mid (λ j least most. agrees.0 j least (omega arith)) given)),
        )
