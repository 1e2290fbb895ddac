-- The parts of a program: its `var` lines, its heads, its `@init` lines, its body and its `print` lines, with the entries of each and
-- the names in scope between them.
use Rattle.std.proofs.Common.{◌≡◌, ℕ, ◌≤◌, ◌+◌, List, [], ◌∷◌, ◌++◌, Option, refl, ◌∙◌, ap, arith, append_assoc, append-nil, map}
use Rattle.std.specs.Prelude.{flat_map}
use Rattle.loop_data.specs.declared.head.Binding.{Binding}
use Rattle.loop_data.specs.declared.head.HeadLine.{HeadLine}
use Rattle.loop_data.specs.declared.head.Inner.{Inner}
use Rattle.loop_data.specs.declared.head.PrintLine.{PrintLine}
use Rattle.loop_grammar.specs.declared.tree.ProgramTree.{ProgramTree}
use Rattle.loop_grammar.specs.declared.line.NumberedLine.{NumberedLine}
use Rattle.loop_grammar.specs.Nesting.{NestsInits, NestsPrints, NestsSkip, NestsVars}
use Rattle.legality_rules.specs.Scopes.{Scope}
use Rattle.legality_rules.specs.Lines.{Entry, Listing, assigned, entries_of, head_listing, in_turn, init_listing, inner_listing, print_listing, statement_listing, var_listing}
use Rattle.legality_rules.specs.Rules.{reduced_by}
use Rattle.legality_rules.specs.Rising.{Rises}
use Rattle.legality_rules.specs.Cuts.{scope_after}
use Rattle.legality_rules.proofs.CutLemmas.{entries_of_two}
use Rattle.legality_rules.proofs.RisingLemmas.{rises_from}
use Rattle.legality_names.specs.declared.deeds.Deed.TheVariants.{Assigns, Reduces}
use Rattle.legality_names.proofs.FirstMet.{Climbs}
use Rattle.legality_names.proofs.DeedLemmas.{deeds_joined, deeds_of}

-- ---- lines that climb

pub skip_rises : {skip : Option ℕ} {from rest : List NumberedLine} → NestsSkip skip from rest → (n : ℕ) → Rises n from → Rises n rest
skip_rises NestsSkip.none n r = r
skip_rises (NestsSkip.one {n = k} {rest = rest}) n r = let h : n ≤ k = r.0 in rises_from n (k + 1) rest (omega arith) r.1

abbrev pub ClimbTo : ℕ → List NumberedLine → (Scope → List Entry) → Type 0
ClimbTo n rest entries = (end : ℕ) × Rises end rest × ((scope : Scope) → Climbs n end (entries scope))

pub vars_climb : {bs : List Binding} {from rest : List NumberedLine} → NestsVars bs from rest → (n : ℕ) → Rises n from → ClimbTo n rest (in_turn (map var_listing bs))
vars_climb NestsVars.none n r = (n, r, λ scope. omega arith)
vars_climb (NestsVars.more {n = k} {bs = bs} others) n r = let more = vars_climb others (k + 1) r.1 in (more.0, more.1, λ scope. (r.0, more.2 _))

pub inits_climb : {bs : List Binding} {from rest : List NumberedLine} → NestsInits bs from rest → (n : ℕ) → Rises n from → ClimbTo n rest (in_turn (map init_listing bs))
inits_climb NestsInits.none n r = (n, r, λ scope. omega arith)
inits_climb (NestsInits.more {n = k} {bs = bs} others) n r = let more = inits_climb others (k + 1) r.1 in (more.0, more.1, λ scope. (r.0, more.2 _))

pub prints_climb : {ps : List PrintLine} {from : List NumberedLine} → NestsPrints ps from → (n : ℕ) → Rises n from → ClimbTo n [] (in_turn (map print_listing ps))
prints_climb NestsPrints.none n r = (n, tt, λ scope. omega arith)
prints_climb (NestsPrints.more {n = k} others) n r = let more = prints_climb others (k + 1) r.1 in (more.0, more.1, λ scope. (r.0, more.2 _))

-- ---- parts that reduce into nothing and assign nothing

var_assigns : (bs : List Binding) (scope : Scope) → deeds_of Assigns (in_turn (map var_listing bs) scope) ≡ []
var_assigns [] scope = refl
var_assigns (b ∷ bs) scope = var_assigns bs _

init_assigns : (bs : List Binding) (scope : Scope) → deeds_of Assigns (in_turn (map init_listing bs) scope) ≡ []
init_assigns [] scope = refl
init_assigns (b ∷ bs) scope = init_assigns bs _

inner_assigns : (h : HeadLine) (is : List Inner) (scope : Scope) → deeds_of Assigns (in_turn (map (inner_listing h) is) scope) ≡ []
inner_assigns h [] scope = refl
inner_assigns h (i ∷ is) scope = inner_assigns h is _

print_assigns : (ps : List PrintLine) (scope : Scope) → deeds_of Assigns (in_turn (map print_listing ps) scope) ≡ []
print_assigns [] scope = refl
print_assigns (p ∷ ps) scope = print_assigns ps _

var_reduces : (bs : List Binding) (scope : Scope) → deeds_of Reduces (in_turn (map var_listing bs) scope) ≡ []
var_reduces [] scope = refl
var_reduces (b ∷ bs) scope = var_reduces bs _

init_reduces : (bs : List Binding) (scope : Scope) → deeds_of Reduces (in_turn (map init_listing bs) scope) ≡ []
init_reduces [] scope = refl
init_reduces (b ∷ bs) scope = init_reduces bs _

inner_reduces : (h : HeadLine) (is : List Inner) (scope : Scope) → deeds_of Reduces (in_turn (map (inner_listing h) is) scope) ≡ []
inner_reduces h [] scope = refl
inner_reduces h (i ∷ is) scope = inner_reduces h is _

print_reduces : (ps : List PrintLine) (scope : Scope) → deeds_of Reduces (in_turn (map print_listing ps) scope) ≡ []
print_reduces [] scope = refl
print_reduces (p ∷ ps) scope = print_reduces ps _

five_parts : (a b c d e x : List (List ℕ)) → a ≡ [] → b ≡ [] → c ≡ [] → d ≡ x → e ≡ [] → a ++ (b ++ (c ++ (d ++ e))) ≡ x
five_parts a b c d e x f g h i j =
    ap (λ z. z ++ (b ++ (c ++ (d ++ e)))) f ∙ ap (λ z. z ++ (c ++ (d ++ e))) g ∙ ap (λ z. z ++ (d ++ e)) h ∙ ap (λ z. z ++ e) i ∙ ap (λ z. x ++ z) j ∙ append-nil x

-- ---- the parts

module _ (p : ProgramTree) where
  abbrev pub vars_entries : List Entry
  vars_entries = in_turn (map var_listing p.vars) []

  abbrev pub scope1 : Scope
  scope1 = scope_after (map var_listing p.vars) []

  abbrev pub heads : List Listing
  heads = head_listing p.head ∷ map (inner_listing p.head) p.head.inner

  abbrev pub head_entries : List Entry
  head_entries = in_turn heads scope1

  abbrev pub scope2 : Scope
  scope2 = scope_after heads scope1

  abbrev pub init_entries : List Entry
  init_entries = in_turn (map init_listing p.scratch) scope2

  abbrev pub scope3 : Scope
  scope3 = scope_after (map init_listing p.scratch) scope2

  abbrev pub body_entries : List Entry
  body_entries = in_turn (map statement_listing p.body) scope3

  abbrev pub scope4 : Scope
  scope4 = scope_after (map statement_listing p.body) scope3

  abbrev pub print_entries : List Entry
  print_entries = in_turn (map print_listing p.prints) scope4

  abbrev pub before_inits : List Entry
  before_inits = vars_entries ++ head_entries

  abbrev pub before_body : List Entry
  before_body = before_inits ++ init_entries

  abbrev pub after_head : List Entry
  after_head = init_entries ++ (body_entries ++ print_entries)

  pub entries_are : entries_of p ≡ vars_entries ++ (head_entries ++ after_head)
  entries_are =
      let one = map var_listing p.vars in
      let three = map init_listing p.scratch in
      let four = map statement_listing p.body in
      let five = map print_listing p.prints in
      ap (λ ls. in_turn ls []) (grouped one heads three four five)
      ∙ entries_of_two one (heads ++ (three ++ (four ++ five))) []
      ∙ ap (λ z. vars_entries ++ z)
      (entries_of_two heads (three ++ (four ++ five)) scope1
      ∙ ap (λ z. head_entries ++ z) (entries_of_two three (four ++ five) scope2 ∙ ap (λ z. init_entries ++ z) (entries_of_two four five scope3)))
    where
      grouped : (one two three four five : List Listing) → one ++ two ++ three ++ four ++ five ≡ one ++ (two ++ (three ++ (four ++ five)))
      grouped one two three four five =
          append_assoc (one ++ two ++ three) four five ∙ append_assoc (one ++ two) three (four ++ five) ∙ append_assoc one two (three ++ (four ++ five))

  -- what the entries do
  pub deeds_are : (x : List (List ℕ)) → deeds_of Reduces body_entries ≡ x → reduced_by (entries_of p) ≡ x
  deeds_are x e =
      ap reduced_by entries_are
      ∙ deeds_joined Reduces vars_entries (head_entries ++ after_head)
      ∙ ap (λ z. deeds_of Reduces vars_entries ++ z)
      (deeds_joined Reduces head_entries after_head
      ∙ ap (λ z. deeds_of Reduces head_entries ++ z)
      (deeds_joined Reduces init_entries (body_entries ++ print_entries) ∙ ap (λ z. deeds_of Reduces init_entries ++ z) (deeds_joined Reduces body_entries print_entries)))
      ∙ five_parts (deeds_of Reduces vars_entries) (deeds_of Reduces head_entries) (deeds_of Reduces init_entries) (deeds_of Reduces body_entries) (deeds_of Reduces print_entries) x
      (var_reduces p.vars []) (inner_reduces p.head p.head.inner _) (init_reduces p.scratch scope2) e (print_reduces p.prints scope4)

  pub assigned_are : (x : List (List ℕ)) → deeds_of Assigns body_entries ≡ x → flat_map (λ (e : Entry). assigned e.says) (entries_of p) ≡ x
  assigned_are x e =
      ap (deeds_of Assigns) entries_are
      ∙ deeds_joined Assigns vars_entries (head_entries ++ after_head)
      ∙ ap (λ z. deeds_of Assigns vars_entries ++ z)
      (deeds_joined Assigns head_entries after_head
      ∙ ap (λ z. deeds_of Assigns head_entries ++ z)
      (deeds_joined Assigns init_entries (body_entries ++ print_entries) ∙ ap (λ z. deeds_of Assigns init_entries ++ z) (deeds_joined Assigns body_entries print_entries)))
      ∙ five_parts (deeds_of Assigns vars_entries) (deeds_of Assigns head_entries) (deeds_of Assigns init_entries) (deeds_of Assigns body_entries) (deeds_of Assigns print_entries) x
      (var_assigns p.vars []) (inner_assigns p.head p.head.inner _) (init_assigns p.scratch scope2) e (print_assigns p.prints scope4)
