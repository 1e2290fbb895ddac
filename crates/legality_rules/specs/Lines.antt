-- The lines of a program as its rules see them: what each line binds, reads, assigns, reduces into and prints, in the order of
-- the places on it, and which names are in scope there. Source: this project's language.
use Rattle.std.specs.Prelude.{ℕ, Bool, List, [], ◌∷◌, ◌++◌, map, flat_map, codes, Option, Some, None}
use Rattle.std.specs.Option.{option_and_then}
use Rattle.loop_data.specs.declared.value.Value.{Value}
use Rattle.loop_data.specs.declared.value.ValueKind.TheVariants as kind
use Rattle.loop_data.specs.declared.expr.Expr.{Expr}
use Rattle.loop_data.specs.declared.expr.RangeExpr.{RangeExpr}
use Rattle.loop_data.specs.declared.tower.TowerExpr.{TowerExpr}
use Rattle.loop_data.specs.declared.head.Axis.{Axis}
use Rattle.loop_data.specs.declared.head.Axis.TheOpen.{Axis-F, Axis-F as a}
use Rattle.loop_data.specs.declared.head.Axis.TheFolds.{fold-Axis}
use Rattle.loop_data.specs.declared.head.Binding.{Binding}
use Rattle.loop_data.specs.declared.head.HeadLine.{HeadLine}
use Rattle.loop_data.specs.declared.head.Inner.{Inner}
use Rattle.loop_data.specs.declared.head.PrintLine.{PrintLine}
use Rattle.loop_data.specs.declared.statement.Statement.{Statement}
use Rattle.loop_data.specs.declared.statement.Branch.{Branch}
use Rattle.loop_data.specs.declared.statement.Statement.TheOpen.{Statement-F, Statement-F as s, Branch-F}
use Rattle.loop_data.specs.declared.statement.Statement.TheFolds.{fold-Statement, fold-Branch}
use Rattle.loop_grammar.specs.declared.tree.ProgramTree.{ProgramTree}
use Rattle.loop_values.specs.Kinds.{kind_of, literal_kind}
use Rattle.legality_rules.specs.declared.scope.Sort.TheVariants.{Variable, LoopVariable, Scratch, Local}
use Rattle.legality_rules.specs.Scopes.{Scope, known_as, kinds_in, found, pattern_known, unwrapped, item_kind}
use Rattle.loop_values.specs.NamesIn.{names_read}
use Rattle.tower_inputs.specs.Towers.{names_read_in_tower}

-- ---- entries

-- What an entry says. A `for` line has one entry for its first head and one for each inner head, any other line is one entry;
-- `else`, `end`, `continue` and `break` say nothing of names and are none.
pub data Form : Type 0 where
  var_line : List ℕ → Value → Form
  -- the pattern, the axes, and whether they are a product
  first_head : List (List ℕ) → List Axis → Bool → Form
  inner_head : List ℕ → RangeExpr → Form
  init_line : List ℕ → Value → Form
  let_line : List (List ℕ) → Expr → Form
  set_line : List ℕ → Expr → Form
  -- `if` or `elseif`
  condition : Expr → Form
  keep_line : List ℕ → Expr → Form
  reduce_line : List ℕ → TowerExpr → Option Value → Form
  print_line : List ℕ → Form

-- An entry on a line, with the names in scope there. A wrong kind on the line is called by the first name that the line binds,
-- assigns or reduces into, else by its first word.
pub record Entry : Type 0 where
  pub line : ℕ
  pub called : List ℕ
  pub scope : Scope
  pub says : Form

-- ---- what an entry says of names, from left to right

abbrev pub range_bounds_with : Expr → Option Expr → Expr → List Expr
range_bounds_with first (Some step) last = first ∷ step ∷ last ∷ []
range_bounds_with first None last = first ∷ last ∷ []

-- the first, the step and the last of a range
abbrev pub range_bounds : RangeExpr → List Expr
range_bounds r = range_bounds_with r.first r.step r.last

abbrev pub bounds_step : Axis-F (List Expr) → List Expr
bounds_step (a.Steps range) = range_bounds range
bounds_step (a.Col column) = []
bounds_step (a.Zip parts) = flat_map (λ part. part) parts

-- the bounds of all ranges of an axis
abbrev pub axis_bounds : Axis → List Expr
axis_bounds = fold-Axis (List Expr) bounds_step

-- names that it binds, reducers aside
abbrev pub bound : Form → List (List ℕ)
bound (var_line n v) = n ∷ []
bound (first_head ns axes product) = ns
bound (inner_head n range) = n ∷ []
bound (init_line n v) = n ∷ []
bound (let_line ns x) = ns
bound (keep_line n x) = n ∷ []
bound _ = []

-- names that it reads in expressions
abbrev pub read : Form → List (List ℕ)
read (first_head ns axes product) = flat_map names_read (flat_map axis_bounds axes)
read (inner_head n range) = flat_map names_read (range_bounds range)
read (let_line ns x) = names_read x
read (set_line n x) = names_read x
read (condition x) = names_read x
read (keep_line n x) = names_read x
read (reduce_line n tower start) = names_read_in_tower tower
read _ = []

-- the name that it assigns
abbrev pub assigned : Form → List (List ℕ)
assigned (set_line n x) = n ∷ []
assigned _ = []

-- the reducer into which it reduces
abbrev pub reduced : Form → List (List ℕ)
reduced (reduce_line n tower start) = n ∷ []
reduced _ = []

-- the name that it prints
abbrev pub printed : Form → List (List ℕ)
printed (print_line n) = n ∷ []
printed _ = []

-- ---- a program's entries

-- the entries of a part of a program, and the names in scope after it
pub record Listed : Type 0 where
  pub entries : List Entry
  pub scope : Scope

-- a part of a program, told the names in scope before it
abbrev pub Listing : Type 0
Listing = Scope → Listed

-- one after another: what one binds is in scope in the later ones
abbrev pub in_turn : List Listing → Scope → List Entry
in_turn [] scope = []
in_turn (listing ∷ more) scope = let here : Listed = listing scope in here.entries ++ in_turn more here.scope

-- one entry, and the names that it binds, which are in scope after it
abbrev pub one_entry : ℕ → List ℕ → Form → Scope → Listing
one_entry line called says binds scope =
    record { entries = record { line = line; called = called; scope = scope; says = says } ∷ []; scope = scope ++ binds }

-- a condition with its block, told the word before it
abbrev pub Branched : Type 0
Branched = List ℕ → Scope → List Entry

-- the word before the first condition is `if`, and before each later one `elseif`
abbrev pub branches_in_turn : List ℕ → List Branched → Scope → List Entry
branches_in_turn word [] scope = []
branches_in_turn word (branch ∷ more) scope = branch word scope ++ branches_in_turn (codes "elseif") more scope

abbrev pub branch_step : Branch-F Listing Branched → Branched
branch_step b word scope = record { line = b.line; called = word; scope = scope; says = condition b.test } ∷ in_turn b.block scope

abbrev pub first_name : List (List ℕ) → List ℕ
first_name [] = []
first_name (n ∷ _) = n

-- One layer of a statement, given its parts. What a block binds is in scope in the later lines of the block, nested blocks
-- included, and not after it.
abbrev pub statement_step : Statement-F Listing Branched → Listing
statement_step (s.Let line ns x) scope =
    one_entry line (first_name ns) (let_line ns x) (pattern_known Local ns (found (kind_of x (kinds_in scope)))) scope
statement_step (s.Set line n x) scope = one_entry line n (set_line n x) [] scope
statement_step (s.If line branches else_line other end_line) scope =
    record { entries = branches_in_turn (codes "if") branches scope ++ in_turn other scope; scope = scope }
statement_step (s.Keep line n x) scope =
    one_entry line n (keep_line n x)
    (known_as Local n (option_and_then unwrapped (found (kind_of x (kinds_in scope)))) ∷ []) scope
statement_step (s.Reduce line n tower start) scope = one_entry line n (reduce_line n tower start) [] scope
statement_step (s.Continue line) scope = record { entries = []; scope = scope }
statement_step (s.Break line) scope = record { entries = []; scope = scope }

abbrev pub statement_listing : Statement → Listing
statement_listing = fold-Statement Listing Branched statement_step branch_step

abbrev pub branch_listing : Branch → Branched
branch_listing = fold-Branch Listing Branched statement_step branch_step

-- `var` and `@init` lines: the name has its literal's kind
abbrev pub var_listing : Binding → Listing
var_listing b = one_entry b.line b.name (var_line b.name b.value) (known_as Variable b.name (found (literal_kind b.value)) ∷ [])

abbrev pub init_listing : Binding → Listing
init_listing b = one_entry b.line b.name (init_line b.name b.value) (known_as Scratch b.name (found (literal_kind b.value)) ∷ [])

-- the first head, whose items the pattern takes
abbrev pub head_listing : HeadLine → Listing
head_listing h =
    one_entry h.line (first_name h.names) (first_head h.names h.axes h.product)
    (pattern_known LoopVariable h.names (item_kind h.product h.axes))

-- an inner head, whose items are Int
abbrev pub inner_listing : HeadLine → Inner → Listing
inner_listing h i =
    one_entry h.line (first_name h.names) (inner_head i.name i.range) (known_as LoopVariable i.name (Some kind.Int) ∷ [])

abbrev pub print_listing : PrintLine → Listing
print_listing p = one_entry p.line (codes "print") (print_line p.name) []

-- all parts of a program, from top to bottom
abbrev pub listings : ProgramTree → List Listing
listings p =
    map var_listing p.vars
    ++ head_listing p.head ∷ map (inner_listing p.head) p.head.inner
    ++ map init_listing p.scratch
    ++ map statement_listing p.body
    ++ map print_listing p.prints

-- the entries of a program, in the order of their lines and, on a line, of their places
abbrev pub entries_of : ProgramTree → List Entry
entries_of p = in_turn (listings p) []
