-- The lines of the statements that lines nest to rise with them.
use Rattle.std.proofs.Common.{◌≡◌, ℕ, ◌<◌, ◌≤◌, ◌+◌, List, [], ◌∷◌, ◌++◌, map, refl, sym, ap, subst, ◌∙◌, arith, codes, append_assoc, append-nil}
use Rattle.std.specs.Prelude.{◌&&◌, not, nat_lt, flat_map, Option, Some, None, true}
use Rattle.std.specs.List.{list_all}
use Rattle.loop_data.specs.declared.statement.Statement.{Statement}
use Rattle.loop_data.specs.declared.statement.Branch.{Branch}
use Rattle.loop_data.specs.declared.head.Binding.{Binding}
use Rattle.loop_data.specs.declared.head.HeadLine.{HeadLine}
use Rattle.loop_data.specs.declared.head.Inner.{Inner}
use Rattle.loop_data.specs.declared.head.PrintLine.{PrintLine}
use Rattle.loop_grammar.specs.declared.tree.ProgramTree.{ProgramTree}
use Rattle.loop_grammar.specs.declared.line.NumberedLine.{NumberedLine}
use Rattle.loop_grammar.specs.Nesting.{NestsStatement, NestsBlock, NestsParts, NestsSkip, NestsVars, NestsInits, NestsPrints, Nests, head_line}
use Rattle.loop_grammar.specs.Texts.{AllSay}
use Rattle.legality_rules.specs.Scopes.{Scope}
use Rattle.legality_rules.specs.Lines.{Entry, Listing, Listed, in_turn, branches_in_turn, statement_listing, branch_listing, var_listing, head_listing, inner_listing, init_listing, print_listing}
use Rattle.legality_rules.specs.Rules.{Outline, Spot, Rule, rules}
use Rattle.legality_rules.specs.declared.refusal.Offence.{Offence}
use Rattle.legality_rules.specs.Offences.{offence, precedes, IsFirst, first_among, offences_against, offences_at, offences_after}
use Rattle.legality_rules.specs.Cuts.{scope_after, earlier_of, or_else, first_broken}
use Rattle.legality_rules.proofs.FirstLemmas.{is_not_before, not_false, all_joined, at_middle, FirstOf, first_of}
use Rattle.std.proofs.lemmas.Bool.{lt-ltb, ltb-true}
use Rattle.legality_rules.proofs.CutLemmas.{first_of_two, first_ends, first_at_entry}
use Rattle.legality_rules.specs.Rising.{Rises, Within, StandsAbove, PartsRise, together, lines_in_turn, condition_entry, block_entries, FirstOfParts, FirstOfBranch}
use Rattle.legality_rules.proofs.Layers.{listing-Let, listing-Set, listing-Keep, listing-Reduce, listing-Continue, listing-Break, listing-If, listing-branch}

-- ---- lines

pub rises_from : (n m : ℕ) (xs : List NumberedLine) → n ≤ m → Rises m xs → Rises n xs
rises_from n m [] h r = tt
rises_from n m (x ∷ xs) h r = let k : m ≤ x.line = r.0 in (omega arith, r.1)

-- the lines of a text rise
pub all_say_rises : {n : ℕ} {lines : List (List ℕ)} {forms : List NumberedLine} → AllSay n lines forms → Rises n forms
all_say_rises AllSay.none = tt
all_say_rises (AllSay.blank_line {n = n} {forms = forms} s more) = rises_from n (n + 1) forms (omega arith) (all_say_rises more)
all_say_rises (AllSay.line {n = n} s more) = (omega arith, all_say_rises more)

-- ---- entries

wider : (n m k l : ℕ) (es : List Entry) → k ≤ n → m ≤ l → Within n m es → Within k l es
wider n m k l [] h g w = tt
wider n m k l (e ∷ es) h g w =
    let a : n ≤ e.line = w.0.0 in
    let b : e.line < m = w.0.1 in
    ((omega arith, omega arith), wider n m k l es h g w.1)

joined : (n m : ℕ) (es fs : List Entry) → Within n m es → Within n m fs → Within n m (es ++ fs)
joined n m [] fs w v = v
joined n m (e ∷ es) fs w v = (w.0, joined n m es fs w.1 v)

-- the entries of one thing and then of another
pub one_above : (n m k : ℕ) (es fs : List Entry) → n ≤ m → m ≤ k → Within n m es → Within m k fs → Within n k (es ++ fs)
one_above n m k es fs h g w v = joined n k es fs (wider n m n k es (omega arith) g w) (wider m k n k fs h (omega arith) v)

-- a statement on one line, which has one entry or none
alone : (n k : ℕ) (rest : List NumberedLine) (entries : Scope → List Entry) → n ≤ k → Rises (k + 1) rest → ((scope : Scope) → Within n (k + 1) (entries scope)) → StandsAbove n rest entries
alone n k rest entries h r w = record { end = k + 1; ordered = omega arith; rises = r; within = w }

abbrev of_statement : Statement → Scope → List Entry
of_statement x scope = let here : Listed = statement_listing x scope in here.entries

abbrev of_block : List Statement → Scope → List Entry
of_block xs = in_turn (map statement_listing xs)

abbrev of_parts : List Branch → List Statement → Scope → List Entry
of_parts branches other scope = branches_in_turn (codes "elseif") (map branch_listing branches) scope ++ in_turn (map statement_listing other) scope

entries_are : (n m : ℕ) (x y : Listed) → x ≡ y → Within n m y.entries → Within n m x.entries
entries_are n m x y e w = let P : Listed → Type 0 = λ z. Within n m z.entries in subst P (sym e) w

on_its_line : (n k : ℕ) → n ≤ k → (n ≤ k) × (k < k + 1)
on_its_line n k h = (h, omega arith)

lists_are : (n m : ℕ) (es fs : List Entry) → es ≡ fs → Within n m fs → Within n m es
lists_are n m es fs e w = subst (Within n m) (sym e) w

-- a condition with its block, and what follows it
with_branch : (n : ℕ) (word : List ℕ) (b : Branch) (us rest : List NumberedLine) (entries : Scope → List Entry) →
    n ≤ b.line → (first : StandsAbove (b.line + 1) us (of_block b.block)) → StandsAbove first.end rest entries →
    StandsAbove n rest (λ scope. branch_listing b word scope ++ entries scope)
with_branch n word b us rest entries h first others =
    let o : b.line + 1 ≤ first.end = first.ordered in
    let q : first.end ≤ others.end = others.ordered in
    record {
      end = others.end;
      ordered = omega arith;
      rises = others.rises;
      within = λ scope. one_above n first.end others.end (branch_listing b word scope) (entries scope) (omega arith) q
          (lists_are n first.end (branch_listing b word scope) _ (listing-branch b word scope)
          ((h, omega arith), wider (b.line + 1) first.end n first.end (of_block b.block scope) (omega arith) (omega arith) (first.within scope)))
          (others.within scope);
    }

-- the same entries, in another form
reformed : (n : ℕ) (rest : List NumberedLine) (entries others : Scope → List Entry) → ((scope : Scope) → others scope ≡ entries scope) → StandsAbove n rest entries → StandsAbove n rest others
reformed n rest entries others e stands =
    record { end = stands.end; ordered = stands.ordered; rises = stands.rises; within = λ scope. lists_are n stands.end (others scope) (entries scope) (e scope) (stands.within scope) }

mutual
  pub statement_rises : {r : ℕ} {x : Statement} {from rest : List NumberedLine} → NestsStatement r x from rest → (n : ℕ) → Rises n from → StandsAbove n rest (of_statement x)
  statement_rises (NestsStatement.let_ {n = k} {names = ns} {x = x} {rest = rest}) n r =
      alone n k rest _ r.0 r.1 (λ scope. entries_are n (k + 1) _ _ (listing-Let scope k ns x) (on_its_line n k r.0, tt))
  statement_rises (NestsStatement.set {n = k} {name = m} {x = x} {rest = rest}) n r =
      alone n k rest _ r.0 r.1 (λ scope. entries_are n (k + 1) _ _ (listing-Set scope k m x) (on_its_line n k r.0, tt))
  statement_rises (NestsStatement.keep {n = k} {name = m} {x = x} {rest = rest}) n r =
      alone n k rest _ r.0 r.1 (λ scope. entries_are n (k + 1) _ _ (listing-Keep scope k m x) (on_its_line n k r.0, tt))
  statement_rises (NestsStatement.reduce {n = k} {name = m} {x = x} {start = start} {rest = rest}) n r =
      alone n k rest _ r.0 r.1 (λ scope. entries_are n (k + 1) _ _ (listing-Reduce scope k m x start) (on_its_line n k r.0, tt))
  statement_rises (NestsStatement.continue {n = k} {rest = rest}) n r =
      alone n k rest _ r.0 r.1 (λ scope. entries_are n (k + 1) _ _ (listing-Continue scope k) tt)
  statement_rises (NestsStatement.break {n = k} {rest = rest}) n r =
      alone n k rest _ r.0 r.1 (λ scope. entries_are n (k + 1) _ _ (listing-Break scope k) tt)
  statement_rises (NestsStatement.if_ {n = k} {m = m} {x = x} {block = block} {branches = branches} {else_line = el} {other = other} b p) n r =
      let first = block_rises b (k + 1) r.1 in
      let branch : Branch = record { line = k; test = x; block = block } in
      reformed n _ (λ scope. branch_listing branch (codes "if") scope ++ of_parts branches other scope) _
      (λ scope.
      ap (λ z. z.entries) (listing-If scope k (branch ∷ branches) el other m)
      ∙ append_assoc (branch_listing branch (codes "if") scope) (branches_in_turn (codes "elseif") (map branch_listing branches) scope) (in_turn (map statement_listing other) scope))
      (with_branch n (codes "if") branch _ _ (of_parts branches other) r.0 first (parts_rise p first.end first.rises))

  pub block_rises : {r : ℕ} {xs : List Statement} {from rest : List NumberedLine} → NestsBlock r xs from rest → (n : ℕ) → Rises n from → StandsAbove n rest (of_block xs)
  block_rises NestsBlock.none n r = record { end = n; ordered = omega arith; rises = r; within = λ scope. tt }
  block_rises (NestsBlock.more {x = x} {xs = xs} h b) n r =
      let first = statement_rises h n r in
      let others = block_rises b first.end first.rises in
      let o : n ≤ first.end = first.ordered in
      let q : first.end ≤ others.end = others.ordered in
      record {
        end = others.end;
        ordered = omega arith;
        rises = others.rises;
        within = λ scope. let here : Listed = statement_listing x scope in one_above n first.end others.end here.entries (of_block xs here.scope) o q (first.within scope) (others.within here.scope);
      }

  parts_rise : {r m el : ℕ} {branches : List Branch} {other : List Statement} {from rest : List NumberedLine} → NestsParts r branches el other m from rest → (n : ℕ) → Rises n from → StandsAbove n rest (of_parts branches other)
  parts_rise (NestsParts.elseif {n = k} {x = x} {block = block} {branches = branches} {other = other} b p) n r =
      let first = block_rises b (k + 1) r.1 in
      let branch : Branch = record { line = k; test = x; block = block } in
      reformed n _ (λ scope. branch_listing branch (codes "elseif") scope ++ of_parts branches other scope) _
      (λ scope. append_assoc (branch_listing branch (codes "elseif") scope) (branches_in_turn (codes "elseif") (map branch_listing branches) scope) (in_turn (map statement_listing other) scope))
      (with_branch n (codes "elseif") branch _ _ (of_parts branches other) r.0 first (parts_rise p first.end first.rises))
  parts_rise (NestsParts.else_ {n = k} {m = m} {other = other} b) n r =
      let block = block_rises b (k + 1) r.1 in
      let h : n ≤ k = r.0 in
      let o : k + 1 ≤ block.end = block.ordered in
      let q : block.end ≤ m = block.rises.0 in
      record { end = m + 1; ordered = omega arith; rises = block.rises.1; within = λ scope. wider (k + 1) block.end n (m + 1) (of_block other scope) (omega arith) (omega arith) (block.within scope) }
  parts_rise (NestsParts.end {m = m}) n r = let h : n ≤ m = r.0 in record { end = m + 1; ordered = omega arith; rises = r.1; within = λ scope. tt }

-- ---- the parts of a program

lower : (n m k : ℕ) (ys : List Listing) (scope : Scope) → n ≤ m → PartsRise m k ys scope → PartsRise n k ys scope
lower n m k [] scope a b = omega arith
lower n m k (y ∷ ys) scope a b = let here : Listed = y scope in let h : m ≤ b.0 = b.1 in (b.0, omega arith, wider m b.0 n b.0 here.entries a (omega arith) b.2, b.3)

parts_joined : (n m k : ℕ) (xs ys : List Listing) (scope : Scope) → PartsRise n m xs scope → PartsRise m k ys (scope_after xs scope) → PartsRise n k (xs ++ ys) scope
parts_joined n m k [] ys scope a b = lower n m k ys scope a b
parts_joined n m k (x ∷ xs) ys scope a b = let here : Listed = x scope in (a.0, a.1, a.2, parts_joined a.0 m k xs ys here.scope a.3 b)

-- parts from n on, before the lines of `rest`
abbrev RiseTo : ℕ → List NumberedLine → List Listing → Type 0
RiseTo n rest parts = (m : ℕ) × Rises m rest × ((scope : Scope) → PartsRise n m parts scope)

nothing_rises : (n : ℕ) (rest : List NumberedLine) → Rises n rest → RiseTo n rest []
nothing_rises n rest r = (n, r, λ scope. omega arith)

-- a part on line k, and more
line_and_more : (n k : ℕ) (rest : List NumberedLine) (listing : Listing) (more : List Listing) → n ≤ k → ((scope : Scope) → let here : Listed = listing scope in Within n (k + 1) here.entries) →
    RiseTo (k + 1) rest more → RiseTo n rest (listing ∷ more)
line_and_more n k rest listing more h w r = (r.0, r.1, λ scope. let here : Listed = listing scope in (k + 1, omega arith, w scope, r.2 here.scope))

vars_rise : {bs : List Binding} {from rest : List NumberedLine} → NestsVars bs from rest → (n : ℕ) → Rises n from → RiseTo n rest (map var_listing bs)
vars_rise NestsVars.none n r = nothing_rises n _ r
vars_rise (NestsVars.more {n = k} {name = name} {v = v} {bs = bs} {rest = rest} others) n r =
    let b : Binding = record { line = k; name = name; value = v } in
    line_and_more n k rest (var_listing b) (map var_listing bs) r.0 (λ scope. (on_its_line n k r.0, tt)) (vars_rise others (k + 1) r.1)

skip_rises : {skip : Option ℕ} {from rest : List NumberedLine} → NestsSkip skip from rest → (n : ℕ) → Rises n from → Rises n rest
skip_rises NestsSkip.none n r = r
skip_rises (NestsSkip.one {n = k} {rest = rest}) n r = let h : n ≤ k = r.0 in rises_from n (k + 1) rest (omega arith) r.1

inits_rise : {bs : List Binding} {from rest : List NumberedLine} → NestsInits bs from rest → (n : ℕ) → Rises n from → RiseTo n rest (map init_listing bs)
inits_rise NestsInits.none n r = nothing_rises n _ r
inits_rise (NestsInits.more {n = k} {name = name} {v = v} {bs = bs} {rest = rest} others) n r =
    let b : Binding = record { line = k; name = name; value = v } in
    line_and_more n k rest (init_listing b) (map init_listing bs) r.0 (λ scope. (on_its_line n k r.0, tt)) (inits_rise others (k + 1) r.1)

prints_rise : {ps : List PrintLine} {from : List NumberedLine} → NestsPrints ps from → (n : ℕ) → Rises n from → RiseTo n [] (map print_listing ps)
prints_rise NestsPrints.none n r = nothing_rises n [] r
prints_rise (NestsPrints.more {n = k} {name = name} {ps = ps} others) n r =
    let p : PrintLine = record { line = k; name = name } in
    line_and_more n k [] (print_listing p) (map print_listing ps) r.0 (λ scope. (on_its_line n k r.0, tt)) (prints_rise others (k + 1) r.1)

body_rises : {r : ℕ} {xs : List Statement} {from rest : List NumberedLine} → NestsBlock r xs from rest → (n : ℕ) → Rises n from → RiseTo n rest (map statement_listing xs)
body_rises NestsBlock.none n r = nothing_rises n _ r
body_rises (NestsBlock.more {x = x} {xs = xs} h b) n r =
    let first = statement_rises h n r in
    let others = body_rises b first.end first.rises in
    (others.0, others.1, λ scope. let here : Listed = statement_listing x scope in (first.end, first.ordered, first.within scope, others.2 here.scope))

-- all entries of a `for` line stand on it
inner_within : (h : HeadLine) (n : ℕ) → n ≤ h.line → (is : List Inner) (scope : Scope) → Within n (h.line + 1) (in_turn (map (inner_listing h) is) scope)
inner_within h n o [] scope = tt
inner_within h n o (i ∷ is) scope = let here : Listed = inner_listing h i scope in (on_its_line n h.line o, inner_within h n o is here.scope)

pub program_rises : {r : ℕ} {p : ProgramTree} {lines : List NumberedLine} → Nests r p lines → (n : ℕ) → Rises n lines → (end : ℕ) × PartsRise n end (lines_in_turn p) []
program_rises (Nests.program {n = k} {m = m} {vars = vars} {scratch = scratch} {h = h} {body = body} {prints = prints} z a b c d) n r =
    let vs = vars_rise a n (skip_rises z n r) in
    let head : HeadLine = head_line k h m in
    let line : Listing = together (head_listing head ∷ map (inner_listing head) head.inner) in
    let is = inits_rise b (k + 1) vs.1.1 in
    let bs = body_rises c is.0 is.1 in
    let e : bs.0 ≤ m = bs.1.0 in
    let ps = prints_rise d (m + 1) bs.1.1 in
    let o : vs.0 ≤ k = vs.1.0 in
    let one = map var_listing vars in
    let two = line ∷ map init_listing scratch in
    let three = map statement_listing body in
    let four = map print_listing prints in
    let for_line : (scope : Scope) → PartsRise vs.0 is.0 two scope = λ scope.
    let here : Listed = line scope in
    let first : Listed = head_listing head scope in
    (k + 1, omega arith, (on_its_line vs.0 k o, inner_within head vs.0 o head.inner first.scope), is.2 here.scope) in
    let front = parts_joined n vs.0 is.0 one two [] (vs.2 []) (for_line (scope_after one [])) in
    let most = parts_joined n is.0 bs.0 (one ++ two) three [] front (bs.2 (scope_after (one ++ two) [])) in
    let last = scope_after (one ++ two ++ three) [] in
    (ps.0, parts_joined n bs.0 ps.0 (one ++ two ++ three) four [] most (lower bs.0 (m + 1) ps.0 four last (omega arith) (ps.2 last)))

-- ---- an offence on an earlier line comes before all on later ones

module _ (outline : Outline) where
  offences_from : (k m : ℕ) (before es : List Entry) → Within k m es → (o : Offence) → o.line < k → list_all (λ p. not (precedes p o)) (offences_after outline before es) ≡ true
  offences_from k m before [] w o h = refl
  offences_from k m before (e ∷ es) w o h =
      let spot : Spot = record { earlier = before; here = e } in
      let g : k ≤ e.line = w.0.0 in
      all_joined (λ p. not (precedes p o)) (offences_at outline spot) (offences_after outline (before ++ e ∷ []) es)
      (each_rule spot o (omega arith) rules) (offences_from k m (before ++ e ∷ []) es w.1 o h)
    where
      each_name : (spot : Spot) (o : Offence) → o.line < spot.here.line → (number : ℕ) (ns : List (List ℕ)) → list_all (λ p. not (precedes p o)) (map (offence number spot) ns) ≡ true
      each_name spot o h number [] = refl
      each_name spot o h number (n ∷ ns) =
          ap (λ b. b && list_all (λ p. not (precedes p o)) (map (offence number spot) ns)) (not_false (precedes (offence number spot n) o) (is_not_before spot.here.line number o.line o.number (omega arith) (λ e. absurd (omega arith))))
          ∙ each_name spot o h number ns

      each_rule : (spot : Spot) (o : Offence) → o.line < spot.here.line → (some : List (ℕ × Rule)) → list_all (λ p. not (precedes p o)) (flat_map (offences_against outline spot) some) ≡ true
      each_rule spot o h [] = refl
      each_rule spot o h (rule ∷ more) =
          all_joined (λ p. not (precedes p o)) (offences_against outline spot rule) (flat_map (offences_against outline spot) more)
          (each_name spot o h rule.0 (rule.1 outline spot)) (each_rule spot o h more)

  offences_below : (n m : ℕ) (before es : List Entry) → Within n m es → list_all (λ p. nat_lt p.line m) (offences_after outline before es) ≡ true
  offences_below n m before [] w = refl
  offences_below n m before (e ∷ es) w =
      let spot : Spot = record { earlier = before; here = e } in
      all_joined (λ p. nat_lt p.line m) (offences_at outline spot) (offences_after outline (before ++ e ∷ []) es) (each_rule spot w.0.1 rules) (offences_below n m (before ++ e ∷ []) es w.1)
    where
      each_name : (spot : Spot) → spot.here.line < m → (number : ℕ) (ns : List (List ℕ)) → list_all (λ p. nat_lt p.line m) (map (offence number spot) ns) ≡ true
      each_name spot h number [] = refl
      each_name spot h number (n ∷ ns) = ap (λ b. b && list_all (λ p. nat_lt p.line m) (map (offence number spot) ns)) (lt-ltb spot.here.line m h) ∙ each_name spot h number ns

      each_rule : (spot : Spot) → spot.here.line < m → (some : List (ℕ × Rule)) → list_all (λ p. nat_lt p.line m) (flat_map (offences_against outline spot) some) ≡ true
      each_rule spot h [] = refl
      each_rule spot h (rule ∷ more) =
          all_joined (λ p. nat_lt p.line m) (offences_against outline spot rule) (flat_map (offences_against outline spot) more) (each_name spot h rule.0 (rule.1 outline spot)) (each_rule spot h more)

  first_is_below : (m : ℕ) (os : List Offence) (o : Offence) → list_all (λ p. nat_lt p.line m) os ≡ true → IsFirst os o → o.line < m
  first_is_below m os o h first =
      let test : List Offence → Type 0 = λ rs. list_all (λ p. nat_lt p.line m) rs ≡ true in
      ltb-true o.line m (at_middle (λ p. nat_lt p.line m) first.before o first.rest (subst test first.stands h))

  ends_or_goes_on : (n m k : ℕ) (before xs ys : List Entry) → Within n m xs → Within m k ys → (f : Option Offence) → FirstOf (offences_after outline before xs) f →
      earlier_of f (first_among (offences_after outline (before ++ xs) ys)) ≡ or_else f (first_among (offences_after outline (before ++ xs) ys))
  ends_or_goes_on n m k before xs ys w v None first = refl
  ends_or_goes_on n m k before xs ys w v (Some o) first =
      first_ends o (offences_after outline (before ++ xs) ys)
      (offences_from m k (before ++ xs) ys v o (first_is_below m (offences_after outline before xs) o (offences_below n m before xs w) first))

pub first_of_rising : (outline : Outline) (before xs ys : List Entry) (n m k : ℕ) → Within n m xs → Within m k ys →
    first_among (offences_after outline before (xs ++ ys))
    ≡ or_else (first_among (offences_after outline before xs)) (first_among (offences_after outline (before ++ xs) ys))
first_of_rising outline before xs ys n m k w v =
    first_of_two outline before xs ys
    ∙ ends_or_goes_on outline n m k before xs ys w v (first_among (offences_after outline before xs)) (first_of (offences_after outline before xs))

-- ---- parts and branches

parts_within : (n m : ℕ) (parts : List Listing) (scope : Scope) → PartsRise n m parts scope → Within n m (in_turn parts scope)
parts_within n m [] scope r = tt
parts_within n m (x ∷ xs) scope r =
    let here : Listed = x scope in
    one_above n r.0 m here.entries (in_turn xs here.scope) r.1 (parts_end r.0 m xs here.scope r.3) r.2 (parts_within r.0 m xs here.scope r.3)
  where
    parts_end : (n m : ℕ) (parts : List Listing) (scope : Scope) → PartsRise n m parts scope → n ≤ m
    parts_end n m [] scope r = r
    parts_end n m (x ∷ xs) scope r = let here : Listed = x scope in let h : r.0 ≤ m = parts_end r.0 m xs here.scope r.3 in let g : n ≤ r.0 = r.1 in omega arith

pub first_of_parts : FirstOfParts
first_of_parts outline before n m listing more scope r =
    let here : Listed = listing scope in
    first_of_rising outline before here.entries (in_turn more here.scope) n r.0 m r.2 (parts_within r.0 m more here.scope r.3)

or_else_assoc : (a b c : Option Offence) → or_else (or_else a b) c ≡ or_else a (or_else b c)
or_else_assoc None b c = refl
or_else_assoc (Some o) b c = refl

pub first_of_branch : FirstOfBranch
first_of_branch outline before k m b word scope others h w v =
    let test : Entry = condition_entry b word scope in
    let spot : Spot = record { earlier = before; here = test } in
    let block : List Entry = block_entries b scope in
    let own : List Entry = test ∷ block in
    let whole : Within b.line k own = ((omega arith, h), wider (b.line + 1) k b.line k block (omega arith) (omega arith) w) in
    let alone : Within b.line (b.line + 1) (test ∷ []) = ((omega arith, omega arith), tt) in
    ap (λ es. first_among (offences_after outline before (es ++ others))) (listing-branch b word scope)
    ∙ first_of_rising outline before own others b.line k m whole v
    ∙ ap (λ o. or_else o (first_among (offences_after outline (before ++ own) others)))
    (first_of_rising outline before (test ∷ []) block b.line (b.line + 1) k alone w
    ∙ ap (λ os. or_else (first_among os) (first_among (offences_after outline (before ++ test ∷ []) block))) (append-nil (offences_at outline spot))
    ∙ ap (λ o. or_else o (first_among (offences_after outline (before ++ test ∷ []) block))) (first_at_entry outline spot))
    ∙ or_else_assoc (first_broken outline spot rules) (first_among (offences_after outline (before ++ test ∷ []) block)) (first_among (offences_after outline (before ++ own) others))
