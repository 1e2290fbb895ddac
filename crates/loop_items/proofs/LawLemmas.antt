-- When a head is refused, and why.
use Rattle.std.proofs.Common.{◌≡◌, ◌≢◌, ◌≤◌, ◌<◌, ◌⊎◌, inl, inr, ℕ, Bool, true, false, List, [], ◌∷◌, length, map, Option, Some, None, refl, sym, ap, ap₂, subst, ◌∙◌, arith}
use Rattle.std.specs.Prelude.{if◌then◌else◌, nat_lt, All, Contains, ℤ, pos}
use Rattle.std.specs.Ordering.{int_eq}
use Rattle.std.proofs.lemmas.Int.{ints}
use Rattle.std.proofs.lemmas.Bool.Decides.{nat_tests}
use Rattle.std.proofs.lemmas.List.Elements.{All-cons, All-head, All-nil, All-tail, Contains-append_right}
use Rattle.number_ranges.specs.Ranges.{range_count, most_items}
use Rattle.splittable.specs.Places.{excess_of, first_excess, item_count}
use Rattle.loop_meaning.specs.Items.{all_items, axis_items, items_of, sources_of}
use Rattle.loop_items.specs.declared.refusal.HeadRefusal.{HeadRefusal}
use Rattle.loop_items.specs.declared.refusal.HeadRefusal.TheVariants as refused
use Rattle.loop_items.specs.Collected.{Collection, column, range}
use Rattle.loop_items.specs.Heads.{Head, head_of}
use Rattle.loop_items.specs.Laws.{AxesCountItems, HoldsRange, IsReason, MayBeGoneOver, NoneIsRefused, RefusalsHaveReasons, RefusalsHaveTheLine, collections_of, line_of}
use Rattle.loop_items.specs.Refusals.{axis_lens, collection_refusal, first_refusal, or_else, product_refusal}
use Rattle.splittable.proofs.Excess.{shortest_excess}
use Rattle.loop_meaning.proofs.CountLemmas.{all_counted}
use Rattle.loop_items.proofs.Counted.{joined_counts, lists_many}
use Rattle.loop_items.proofs.HeadForms.{has_axes, head_is_head}

is_zero : (n : ℤ) → int_eq n (pos 0) ≡ true → n ≡ pos 0
is_zero n e = grind (arith, ints)

is_not_zero : (n : ℤ) → int_eq n (pos 0) ≡ false → n ≢ pos 0
is_not_zero n e = grind (arith, ints)

not_zero : (n : ℤ) → n ≢ pos 0 → int_eq n (pos 0) ≡ false
not_zero n e = grind (arith, ints)

is_over : (n : ℕ) → nat_lt most_items n ≡ true → most_items < n
is_over n e = grind (arith, nat_tests)

is_few : (n : ℕ) → nat_lt most_items n ≡ false → n ≤ most_items
is_few n e = grind (arith, nat_tests)

few_is : (n : ℕ) → n ≤ most_items → nat_lt most_items n ≡ false
few_is n h = grind (arith, nat_tests)

-- ---- one collection

abbrev range_at : ℕ → ℕ → Bool → Bool → Option HeadRefusal
range_at line n none over = if none then Some (refused.ZeroStep line) else if over then Some (refused.TooManyItems n line) else None

fine_at : (line n : ℕ) (none over : Bool) → range_at line n none over ≡ None → (none ≡ false) × (over ≡ false)
fine_at line n true over e = absurd (cc e)
fine_at line n false true e = absurd (cc e)
fine_at line n false false e = (refl, refl)

may_be : (line : ℕ) (c : Collection) → collection_refusal line c ≡ None → MayBeGoneOver c
may_be line (range first step last) e =
    let n = range_count first step last in
    let fine = fine_at line n (int_eq step (pos 0)) (nat_lt most_items n) e in (is_not_zero step fine.0, is_few n fine.1)
may_be line (column name None) e = absurd (cc e)
may_be line (column name (Some texts)) e = refl

fine_is : (line : ℕ) (c : Collection) → MayBeGoneOver c → collection_refusal line c ≡ None
fine_is line (range first step last) h =
    let n = range_count first step last in ap₂ (range_at line n) (not_zero step h.0) (few_is n h.1)
fine_is line (column name None) h = absurd (cc h)
fine_is line (column name (Some texts)) h = refl

-- ---- several

none_parts : (a b : Option HeadRefusal) → or_else a b ≡ None → (a ≡ None) × (b ≡ None)
none_parts None b e = (refl, e)
none_parts (Some r) b e = absurd (cc e)

some_parts : (a b : Option HeadRefusal) (r : HeadRefusal) → or_else a b ≡ Some r → (a ≡ Some r) ⊎ (b ≡ Some r)
some_parts None b r e = inr e
some_parts (Some s) b r e = inl e

all_may_be : (line : ℕ) (cs : List Collection) → first_refusal line cs ≡ None → All MayBeGoneOver cs
all_may_be line [] e = All-nil MayBeGoneOver
all_may_be line (c ∷ cs) e =
    let parts = none_parts (collection_refusal line c) (first_refusal line cs) e in
    All-cons MayBeGoneOver c cs (may_be line c parts.0) (all_may_be line cs parts.1)

all_fine : (line : ℕ) (cs : List Collection) → All MayBeGoneOver cs → first_refusal line cs ≡ None
all_fine line [] h = refl
all_fine line (c ∷ cs) h =
    ap₂ or_else (fine_is line c (All-head MayBeGoneOver c cs h)) (all_fine line cs (All-tail MayBeGoneOver c cs h))

first_holds : (c : Collection) (cs : List Collection) → Contains (c ∷ cs) c
first_holds c cs = (0, omega arith, refl)

reason_at : (line n : ℕ) (first step last : ℤ) (cs : List Collection) (head : Head) (r : HeadRefusal) (none over : Bool) →
    range_count first step last ≡ n → int_eq step (pos 0) ≡ none → nat_lt most_items n ≡ over → range_at line n none over ≡ Some r → IsReason r (range first step last ∷ cs) head
reason_at line n first step last cs head r true over counted none is e =
    let same : refused.ZeroStep line ≡ r = cc e in
    let P : ℤ → Type 0 = λ s. Contains (range first step last ∷ cs) (range first s last) in
    let Q : HeadRefusal → Type 0 = λ q. IsReason q (range first step last ∷ cs) head in
    subst Q same (first, last, subst P (is_zero step none) (first_holds (range first step last) cs))
reason_at line n first step last cs head r false true counted none is e =
    let same : refused.TooManyItems n line ≡ r = cc e in
    let Q : HeadRefusal → Type 0 = λ q. IsReason q (range first step last ∷ cs) head in
    subst Q same (is_over n is, inl (record { first = first; step = step; last = last; held = first_holds (range first step last) cs; counted = counted }))
reason_at line n first step last cs head r false false counted none is e = absurd (cc e)

reason_of : (line : ℕ) (c : Collection) (cs : List Collection) (head : Head) (r : HeadRefusal) → collection_refusal line c ≡ Some r → IsReason r (c ∷ cs) head
reason_of line (range first step last) cs head r e =
    let n = range_count first step last in reason_at line n first step last cs head r (int_eq step (pos 0)) (nat_lt most_items n) refl refl refl e
reason_of line (column name None) cs head r e =
    let same : refused.NoSuchColumn name line ≡ r = cc e in
    let Q : HeadRefusal → Type 0 = λ q. IsReason q (column name None ∷ cs) head in subst Q same (first_holds (column name None) cs)
reason_of line (column name (Some texts)) cs head r e = absurd (cc e)

-- a reason among some collections is one among more
more_hold : (c : Collection) (cs : List Collection) (n : ℕ) → HoldsRange cs n → HoldsRange (c ∷ cs) n
more_hold c cs n h =
    record { first = h.first; step = h.step; last = h.last; held = Contains-append_right (c ∷ []) cs (range h.first h.step h.last) h.held; counted = h.counted }

reason_in_more : (c : Collection) (cs : List Collection) (head : Head) (r : HeadRefusal) → IsReason r cs head → IsReason r (c ∷ cs) head
reason_in_more c cs head (refused.NoSuchColumn name line) h = Contains-append_right (c ∷ []) cs (column name None) h
reason_in_more c cs head (refused.ZeroStep line) h = (h.0, h.1, Contains-append_right (c ∷ []) cs (range h.0 (pos 0) h.1) h.2)
reason_in_more c cs head (refused.TooManyItems n line) h = (h.0, elim (h.1) [ inl held ↦ inl (more_hold c cs n held) | inr over ↦ inr over ])
reason_in_more c cs head refused.NoMemory h = h

reason_in : (line : ℕ) (cs : List Collection) (head : Head) (r : HeadRefusal) → first_refusal line cs ≡ Some r → IsReason r cs head
reason_in line [] head r e = absurd (cc e)
reason_in line (c ∷ cs) head r e =
    elim (some_parts (collection_refusal line c) (first_refusal line cs) r e) [
      | inl here ↦ reason_of line c cs head r here
      | inr later ↦ reason_in_more c cs head r (reason_in line cs head r later)
    ]

-- ---- the product

abbrev product_at : ℕ → ℕ → Bool → Option HeadRefusal
product_at line excess over = product_refusal line (if over then Some excess else None)

product_fine : (line excess : ℕ) (over : Bool) → product_at line excess over ≡ None → over ≡ false
product_fine line excess true e = absurd (cc e)
product_fine line excess false e = refl

product_over : (line excess : ℕ) (over : Bool) (r : HeadRefusal) → product_at line excess over ≡ Some r → (over ≡ true) × (refused.TooManyItems excess line ≡ r)
product_over line excess true r e = (refl, cc e)
product_over line excess false r e = absurd (cc e)

pub axes_count : AxesCountItems
axes_count program table well =
    let axes = has_axes program.head.product program.head.axes (head_is_head program well) in
    let sources = sources_of program table in
    let lists = all_items (map axis_items program.head.axes) sources in
    let one : program.head.product ≡ false → length lists ≡ 1 = λ e. lists_many program.head.axes sources ∙ axes.one e in
    sym (joined_counts program.head.product lists one ∙ ap item_count (all_counted program.head.axes sources))

pub none_is_refused : NoneIsRefused
none_is_refused program table well =
    let line = program.head.line in
    let cs = collections_of program table in
    let lens = axis_lens program.head (sources_of program table) in
    let counted = axes_count program table well in (
      λ e.
          let parts = none_parts (first_refusal line cs) (product_refusal line (excess_of lens)) e in
          let few : item_count lens ≤ most_items = is_few (item_count lens) (product_fine line (first_excess lens) (nat_lt most_items (item_count lens)) parts.1) in
          record { collections = all_may_be line cs parts.0; few = omega (arith, few, counted) },
      λ h.
          let few : item_count lens ≤ most_items = omega (arith, h.few, counted) in
          ap₂ or_else (all_fine line cs h.collections) (ap (product_at line (first_excess lens)) (few_is (item_count lens) few)),
    )

pub refusals_have_reasons : RefusalsHaveReasons
refusals_have_reasons program table r well e =
    let line = program.head.line in
    let cs = collections_of program table in
    let lens = axis_lens program.head (sources_of program table) in
    let head = head_of program table in
    let counted = axes_count program table well in
    elim (some_parts (first_refusal line cs) (product_refusal line (excess_of lens)) r e) [
      | inl here ↦ reason_in line cs head r here
      | inr later ↦
          let told = product_over line (first_excess lens) (nat_lt most_items (item_count lens)) r later in
          let over : most_items < item_count lens = is_over (item_count lens) told.0 in
          let Q : HeadRefusal → Type 0 = λ q. IsReason q cs head in
          let many : most_items < length (items_of program table) = omega (arith, over, counted) in
          let first = shortest_excess lens over in
          subst Q told.1 (first.over, inr (record { items = many; first_axes = first }))
    ]

-- ---- lines

line_at : (line n : ℕ) (none over : Bool) (r : HeadRefusal) → range_at line n none over ≡ Some r → line_of r ≡ Some line
line_at line n true over r e = let same : refused.ZeroStep line ≡ r = cc e in ap line_of (sym same)
line_at line n false true r e = let same : refused.TooManyItems n line ≡ r = cc e in ap line_of (sym same)
line_at line n false false r e = absurd (cc e)

line_in : (line : ℕ) (c : Collection) (r : HeadRefusal) → collection_refusal line c ≡ Some r → line_of r ≡ Some line
line_in line (range first step last) r e =
    let n = range_count first step last in line_at line n (int_eq step (pos 0)) (nat_lt most_items n) r e
line_in line (column name None) r e = let same : refused.NoSuchColumn name line ≡ r = cc e in ap line_of (sym same)
line_in line (column name (Some texts)) r e = absurd (cc e)

line_of_first : (line : ℕ) (cs : List Collection) (r : HeadRefusal) → first_refusal line cs ≡ Some r → line_of r ≡ Some line
line_of_first line [] r e = absurd (cc e)
line_of_first line (c ∷ cs) r e =
    elim (some_parts (collection_refusal line c) (first_refusal line cs) r e) [
      | inl here ↦ line_in line c r here
      | inr later ↦ line_of_first line cs r later
    ]

pub refusals_have_the_line : RefusalsHaveTheLine
refusals_have_the_line program table r e =
    let line = program.head.line in
    let cs = collections_of program table in
    let lens = axis_lens program.head (sources_of program table) in
    elim (some_parts (first_refusal line cs) (product_refusal line (excess_of lens)) r e) [
      | inl here ↦ line_of_first line cs r here
      | inr later ↦
          let told = product_over line (first_excess lens) (nat_lt most_items (item_count lens)) r later in ap line_of (sym told.1)
    ]
