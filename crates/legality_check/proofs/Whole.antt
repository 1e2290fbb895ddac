-- What the two checks answer of a program that some text spells is its first offence.
use Rattle.std.proofs.Common.{◌≡◌, ℕ, ◌<◌, ◌≤◌, ◌+◌, true, false, Bool, List, [], ◌∷◌, ◌++◌, Option, Some, None, Err, refl, sym, ◌∙◌, ap, subst, arith, map}
use Rattle.std.specs.Prelude.{if◌then◌else◌, flat_map}
use Rattle.loop_data.specs.declared.value.ValueKind.TheVariants as kind
use Rattle.loop_values.specs.NamesIn.{names_read}
use Rattle.loop_data.specs.declared.head.Binding.{Binding}
use Rattle.loop_data.specs.declared.head.HeadLine.{HeadLine}
use Rattle.loop_data.specs.declared.head.Inner.{Inner}
use Rattle.loop_data.specs.declared.head.PrintLine.{PrintLine}
use Rattle.loop_grammar.specs.declared.tree.ProgramTree.{ProgramTree}
use Rattle.loop_grammar.specs.declared.line.NumberedLine.{NumberedLine}
use Rattle.loop_grammar.specs.Nesting.{Nests, head_line}
use Rattle.loop_grammar.specs.Texts.{SpellsProgram}
use Rattle.legality_rules.specs.declared.refusal.Offence.{Offence}
use Rattle.legality_rules.specs.declared.refusal.LegalRefusal.TheVariants.{Illegal}
use Rattle.legality_rules.specs.declared.scope.Sort.TheVariants.{LoopVariable}
use Rattle.legality_rules.specs.Scopes.{Scope, item_kind, known_as, pattern_kinds}
use Rattle.legality_rules.specs.Lines.{Entry, Listed, entries_of, first_name, in_turn, init_listing, inner_head, inner_listing, range_bounds, print_listing, var_listing}
use Rattle.legality_rules.specs.Paths.{is_reached}
use Rattle.legality_rules.specs.Rules.{Outline, Spot, carried_scratches, is_assigned, outline_of, reduced_by, rules}
use Rattle.legality_rules.specs.Rising.{Rises, Within}
use Rattle.legality_rules.specs.Offences.{first_among, first_offence, offences_after, precedes, spots_after}
use Rattle.legality_rules.specs.Cuts.{earlier_of, or_else, first_broken}
use Rattle.legality_rules.proofs.FirstLemmas.{is_not_before}
use Rattle.legality_rules.proofs.RisingLemmas.{all_say_rises, first_of_rising}
use Rattle.legality_names.specs.declared.deeds.Deed.TheVariants.{Assigns, Reduces}
use Rattle.legality_names.specs.Answers.{answer}
use Rattle.legality_names.specs.Deeds.{done_in}
use Rattle.legality_names.proofs.BaseScope.{Plain, after_vars, names_of, plain_each, plain_joined, plain_one, plain_vars}
use Rattle.legality_names.proofs.DeedLemmas.{block_done}
use Rattle.legality_names.proofs.FirstMet.{Climbs, by_fourth, by_others, climbs_end, climbs_from, climbs_joined, climbs_within, earlier_none, wider, first_met, first_of_climbing, fourth_apart, fourth_on_line, met_above, met_apart, met_below, met_joined, or_none, others_on_line}
use Rattle.legality_names.proofs.Parts.{after_head, before_body, before_inits, body_entries, deeds_are, entries_are, head_entries, init_entries, inits_climb, print_entries, prints_climb, scope1, scope2, scope3, scope4, skip_rises, vars_climb, vars_entries}
use Rattle.legality_lines.specs.Walks.{program_checked}
use Rattle.legality_lines.proofs.HeadLemmas.{line_is, no_scratch_reads, on_the_line, spots_of}
use Rattle.legality_lines.proofs.LineFirst.{IsAfter, line_after, line_broken, line_first}
use Rattle.legality_lines.proofs.Walked.{a_body, a_head, a_inits, a_prints, a_vars, walk_is}
use Rattle.legality_scratches.specs.Scans.{carriable, program_scanned}
use Rattle.legality_scratches.proofs.ScanLemmas.{block_scans}
use Rattle.legality_scratches.proofs.Scanned.{carried, pass_is, pattern}
use Rattle.legality_check.specs.Programs.{earlier, tried}

-- ---- the earlier of two answers

earlier_is : (o p : Option Offence) → earlier (answer o) (answer p) ≡ answer (earlier_of o p)
earlier_is None p = refl
earlier_is (Some o) None = refl
earlier_is (Some o) (Some p) = at (precedes p o)
  where
    at : (t : Bool) → (if t then Err (Illegal p) else Err (Illegal o)) ≡ answer (Some (if t then p else o))
    at true = refl
    at false = refl

-- ---- parts that read no scratch

none_fourth_var : (outline : Outline) (bs : List Binding) (before : List Entry) (scope : Scope) → first_met (by_fourth outline) before (in_turn (map var_listing bs) scope) ≡ None
none_fourth_var outline [] before scope = refl
none_fourth_var outline (b ∷ bs) before scope = none_fourth_var outline bs _ _

none_fourth_init : (outline : Outline) (bs : List Binding) (before : List Entry) (scope : Scope) → first_met (by_fourth outline) before (in_turn (map init_listing bs) scope) ≡ None
none_fourth_init outline [] before scope = refl
none_fourth_init outline (b ∷ bs) before scope = none_fourth_init outline bs _ _

none_fourth_print : (outline : Outline) (ps : List PrintLine) (before : List Entry) (scope : Scope) → first_met (by_fourth outline) before (in_turn (map print_listing ps) scope) ≡ None
none_fourth_print outline [] before scope = refl
none_fourth_print outline (p ∷ ps) before scope = none_fourth_print outline ps _ _

-- ---- offences of lines above

precedes_not : (o q : Offence) → o.line < q.line → precedes q o ≡ false
precedes_not o q h = is_not_before q.line q.number o.line o.number (omega arith) (λ e. absurd (omega arith))

-- an offence that stands above all others is the first
above_first : (a x y : Option Offence) (n : ℕ) → ((o : Offence) → a ≡ Some o → o.line < n) → ((q : Offence) → y ≡ Some q → n ≤ q.line) → or_else a (earlier_of x y) ≡ earlier_of (or_else a x) y
above_first None x y n b c = refl
above_first (Some o) x None n b c = refl
above_first (Some o) x (Some q) n b c =
    let f : o.line < n = b o refl in
    let g : n ≤ q.line = c q refl in
    ap (λ t. Some (if t then q else o)) (sym (precedes_not o q (omega arith)))

-- ---- the parts of a program

on_line : (n k : ℕ) → n ≤ k → (n ≤ k) × (k < k + 1)
on_line n k h = (h, omega arith)

inner_within : (h : HeadLine) (n : ℕ) → n ≤ h.line → (is : List Inner) (scope : Scope) → Within n (h.line + 1) (in_turn (map (inner_listing h) is) scope)
inner_within h n o [] scope = tt
inner_within h n o (i ∷ is) scope = let here : Listed = inner_listing h i scope in (on_line n h.line o, inner_within h n o is here.scope)

-- ---- the whole program

module _ (p : ProgramTree) where
  abbrev outline : Outline
  outline = outline_of p

  -- ---- the first offence

  abbrev any : Spot → Option Offence
  any spot = first_broken outline spot rules

  within_both : (n k m : ℕ) (es fs : List Entry) → n ≤ k → k ≤ m → Within n k es → Within k m fs → Within n m (es ++ fs)
  within_both n k m [] fs h g w v = wider n k m fs h v
  within_both n k m (e ∷ es) fs h g w v = let b : e.line < k = w.0.1 in ((w.0.0, omega arith), within_both n k m es fs h g w.1 v)

  none_carried : (before : List Entry) (is : List Inner) (scope : Scope) (ns : List (List ℕ)) → Plain scope ns → flat_map (carried_scratches outline) (spots_of outline p.head before is scope) ≡ []
  none_carried before [] scope ns plain = refl
  none_carried before (i ∷ is) scope ns plain =
      let one = known_as LoopVariable i.name (Some kind.Int) in
      let entry : Entry = record { line = p.head.line; called = first_name p.head.names; scope = scope; says = inner_head i.name i.range } in
      ap (λ z. z ++ flat_map (carried_scratches outline) (spots_of outline p.head (before ++ entry ∷ []) is (scope ++ one ∷ [])))
      (no_scratch_reads outline p.head scope (is_assigned outline) (is_reached outline.paths p.head.line) plain.none (flat_map names_read (range_bounds i.range)))
      ∙ none_carried (before ++ entry ∷ []) is (scope ++ one ∷ []) (ns ++ i.name ∷ []) (plain_joined scope (one ∷ []) ns (i.name ∷ []) plain (plain_one one refl))

  vars_plain : Plain (scope1 p) (names_of p.vars)
  vars_plain = let Q : Scope → Type 0 = λ z. Plain z (names_of p.vars) in subst Q (sym (after_vars p.vars [])) (plain_vars p.vars)

  inside_plain : Plain ((scope1 p) ++ (pattern p)) (names_of p.vars ++ p.head.names)
  inside_plain = plain_joined (scope1 p) (pattern p) (names_of p.vars) p.head.names vars_plain (plain_each p.head.names (pattern_kinds p.head.names (item_kind p.head.product p.head.axes)))

  head_broken : line_broken outline p.head.line (spots_after (vars_entries p) (head_entries p)) rules ≡ (a_head p)
  head_broken = line_is outline p.head (vars_entries p) (scope1 p) vars_plain.none (λ before is. none_carried before is ((scope1 p) ++ (pattern p)) (names_of p.vars ++ p.head.names) inside_plain)

  head_first : first_among (offences_after outline (vars_entries p) (head_entries p)) ≡ (a_head p)
  head_first =
      line_first outline p.head.line (spots_after (vars_entries p) (head_entries p)) (refl, on_the_line outline p.head _ p.head.inner ((scope1 p) ++ (pattern p))) ∙ head_broken

  some_line : (x : Option Offence) (o : Offence) → IsAfter 0 p.head.line x → x ≡ Some o → o.line ≡ p.head.line
  some_line None o a e = absurd (cc)
  some_line (Some q) o a e = let P : Option Offence → Type 0 = IsAfter 0 p.head.line in let b : P (Some o) = subst P e a in b.0

  head_line_is : (o : Offence) → (a_head p) ≡ Some o → o.line ≡ p.head.line
  head_line_is o e =
      some_line (line_broken outline p.head.line (spots_after (vars_entries p) (head_entries p)) rules) o
      (line_after outline (spots_after (vars_entries p) (head_entries p)) 0 p.head.line rules (omega arith, (omega arith, (omega arith, (omega arith, (omega arith, (omega arith, (omega arith, (omega arith, (omega arith, (omega arith, tt)))))))))))
      (head_broken ∙ e)

  module _ (n1 end : ℕ) (above : n1 ≤ p.head.line) (vars_up : Climbs 1 n1 (vars_entries p)) (rest_up : Climbs (p.head.line + 1) end (after_head p)) (body_end body_start : ℕ) (body_from : p.head.line + 1 ≤ body_start)
      (body_up : Climbs body_start body_end (body_entries p)) where
    vars_first : first_among (offences_after outline [] (vars_entries p)) ≡ (a_vars p)
    vars_first =
        first_of_climbing outline 1 n1 [] (vars_entries p) vars_up
        ∙ met_apart any (by_others outline) (by_fourth outline) (fourth_apart outline) (others_on_line outline) (fourth_on_line outline) 1 n1 [] (vars_entries p) vars_up
        ∙ ap (earlier_of (a_vars p)) (none_fourth_var outline p.vars [] [])
        ∙ earlier_none (a_vars p)

    rest_others : first_met (by_others outline) (before_inits p) (after_head p) ≡ or_else (a_inits p) (or_else (a_body p) (a_prints p))
    rest_others = met_joined (by_others outline) (before_inits p) (init_entries p) ((body_entries p) ++ (print_entries p)) ∙ ap (or_else (a_inits p)) (met_joined (by_others outline) (before_body p) (body_entries p) (print_entries p))

    rest_fourth : first_met (by_fourth outline) (before_inits p) (after_head p) ≡ (carried p)
    rest_fourth =
        met_joined (by_fourth outline) (before_inits p) (init_entries p) ((body_entries p) ++ (print_entries p))
        ∙ ap (λ o. or_else o (first_met (by_fourth outline) (before_body p) ((body_entries p) ++ (print_entries p)))) (none_fourth_init outline p.scratch (before_inits p) (scope2 p))
        ∙ met_joined (by_fourth outline) (before_body p) (body_entries p) (print_entries p)
        ∙ ap (or_else (carried p)) (none_fourth_print outline p.prints ((before_body p) ++ (body_entries p)) (scope4 p))
        ∙ or_none (carried p)

    rest_first : first_among (offences_after outline (before_inits p) (after_head p)) ≡ earlier_of (or_else (a_inits p) (or_else (a_body p) (a_prints p))) (carried p)
    rest_first =
        first_of_climbing outline (p.head.line + 1) end (before_inits p) (after_head p) rest_up
        ∙ met_apart any (by_others outline) (by_fourth outline) (fourth_apart outline) (others_on_line outline) (fourth_on_line outline) (p.head.line + 1) end (before_inits p) (after_head p) rest_up
        ∙ ap (λ o. earlier_of o (first_met (by_fourth outline) (before_inits p) (after_head p))) rest_others
        ∙ ap (earlier_of (or_else (a_inits p) (or_else (a_body p) (a_prints p)))) rest_fourth

    carried_below : (q : Offence) → (carried p) ≡ Some q → p.head.line + 1 ≤ q.line
    carried_below q e =
        let g : body_start ≤ q.line = met_above (by_fourth outline) (fourth_on_line outline) body_start body_end (before_body p) (body_entries p) body_up q e in omega arith

    first_is : first_offence p ≡ earlier_of (or_else (a_vars p) (or_else (a_head p) (or_else (a_inits p) (or_else (a_body p) (a_prints p))))) (carried p)
    first_is =
        let line = p.head.line in
        let x = or_else (a_inits p) (or_else (a_body p) (a_prints p)) in
        let g : line + 1 ≤ end = climbs_end (line + 1) end (after_head p) rest_up in
        let head_within : Within n1 (line + 1) (head_entries p) = (on_line n1 line above, inner_within p.head n1 above p.head.inner ((scope1 p) ++ (pattern p))) in
        let rest_within : Within (line + 1) end (after_head p) = climbs_within (line + 1) end (after_head p) rest_up in
        ap (λ es. first_among (offences_after outline [] es)) (entries_are p)
        ∙ first_of_rising outline [] (vars_entries p) ((head_entries p) ++ (after_head p)) 1 n1 end (climbs_within 1 n1 (vars_entries p) vars_up)
        (within_both n1 (line + 1) end (head_entries p) (after_head p) (omega arith) g head_within rest_within)
        ∙ ap (λ o. or_else o (first_among (offences_after outline (vars_entries p) ((head_entries p) ++ (after_head p))))) vars_first
        ∙ ap (or_else (a_vars p))
        (first_of_rising outline (vars_entries p) (head_entries p) (after_head p) n1 (line + 1) end head_within rest_within
        ∙ ap (λ o. or_else o (first_among (offences_after outline (before_inits p) (after_head p)))) head_first
        ∙ ap (or_else (a_head p)) rest_first
        ∙ above_first (a_head p) x (carried p) (line + 1) (λ o e. let h : o.line ≡ line = head_line_is o e in omega arith) carried_below)
        ∙ above_first (a_vars p) (or_else (a_head p) x) (carried p) (line + 1)
        (λ o e. let h : o.line < n1 = met_below (by_others outline) (others_on_line outline) 1 n1 [] (vars_entries p) vars_up o e in omega arith) carried_below

-- what the checker answers of a program that some text spells
pub whole : {r : ℕ} {p : ProgramTree} {forms : List NumberedLine} → Nests r p forms → Rises 1 forms → tried p ≡ answer (first_offence p)
whole (Nests.program {n = k} {m = m} {skip = skip} {vars = vars} {scratch = scratch} {h = h} {body = body} {prints = prints} z a b c d) r =
    let p : ProgramTree = record { skip_line = skip; vars = vars; head = head_line k h m; scratch = scratch; body = body; prints = prints } in
    let vs = vars_climb a 1 (skip_rises z 1 r) in
    let o : vs.0 ≤ k = vs.1.0 in
    let is = inits_climb b (k + 1) vs.1.1 in
    let bs = block_scans (outline p) (carriable p) c is.0 is.1 in
    let e : bs.end ≤ m = bs.rises.0 in
    let ps = prints_climb d (m + 1) bs.rises.1 in
    let body_up : Climbs is.0 bs.end (body_entries p) = bs.climbs (scope3 p) in
    let inits_up : Climbs (k + 1) is.0 (init_entries p) = is.2 (scope2 p) in
    let rest_up : Climbs (k + 1) ps.0 (after_head p) =
    climbs_joined (k + 1) is.0 ps.0 (init_entries p) (body_entries p ++ print_entries p) inits_up
    (climbs_joined is.0 bs.end ps.0 (body_entries p) (print_entries p) body_up (climbs_from bs.end (m + 1) ps.0 (print_entries p) (omega arith) (ps.2 (scope4 p)))) in
    let from : k + 1 ≤ is.0 = climbs_end (k + 1) is.0 (init_entries p) inits_up in
    let reducers_are : reduced_by (entries_of p) ≡ done_in Reduces body = deeds_are p (done_in Reduces body) (block_done Reduces c (scope3 p)) in
    ap (λ ns. earlier (program_checked ns p) (program_scanned p)) (sym reducers_are)
    ∙ ap (λ t. earlier t (program_scanned p)) (walk_is p c)
    ∙ ap (earlier (answer (or_else (a_vars p) (or_else (a_head p) (or_else (a_inits p) (or_else (a_body p) (a_prints p))))))) (pass_is p is.0 bs (block_done Assigns c (scope3 p)))
    ∙ earlier_is (or_else (a_vars p) (or_else (a_head p) (or_else (a_inits p) (or_else (a_body p) (a_prints p))))) (carried p)
    ∙ ap answer (sym (first_is p vs.0 ps.0 o (vs.2 []) rest_up bs.end is.0 from body_up))

pub tried_is_first : (text : List ℕ) (p : ProgramTree) → SpellsProgram text p → tried p ≡ answer (first_offence p)
tried_is_first text p spelled = whole spelled.nests (all_say_rises spelled.lines)
