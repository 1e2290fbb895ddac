-- The order of values of several forms.
use Rattle.std.proofs.Common.{◌≡◌, ℕ, ◌≤◌, Bool, List, refl, ◌∙◌, rules, arith, ℤ}
use Rattle.std.specs.declared.cmp.Ordering.TheVariants.{Less, Greater}
use Rattle.loop_data.specs.declared.value.Value.{Value, out-Value, the_lemmas}
use Rattle.loop_data.specs.declared.value.Value.TheOpen.{Value-F, Value-F as v}
use Rattle.loop_data.specs.declared.value.Value.TheVariants.{Int, Bool as Truth, Text}
use Rattle.loop_data.specs.ValueOrder.{value_cmp, form_rank, order_of}
use Rattle.loop_results.specs.Laws.{NumbersThenTextsThenAllElse, TruthTextAndNumber}

-- ---- by their forms
int_first : (n : ℤ) (x : Value-F Value) → 2 ≤ form_rank x → order_of (v.Int n) x ≡ Less
int_first n (v.Int _) h = absurd (omega (arith, h))
int_first n (v.Text _) h = refl
int_first n (v.Bool _) h = refl
int_first n v.Nothing h = refl
int_first n (v.Tuple _) h = refl

text_first : (t : List ℕ) (x : Value-F Value) → 2 ≤ form_rank x → order_of (v.Text t) x ≡ Less
text_first t (v.Int _) h = absurd (omega (arith, h))
text_first t (v.Text _) h = absurd (omega (arith, h))
text_first t (v.Bool _) h = refl
text_first t v.Nothing h = refl
text_first t (v.Tuple _) h = refl

int_layer : (n : ℤ) (x : Value) → value_cmp (Int n) x ≡ order_of (v.Int n) (out-Value x)
int_layer n x = search (rules, the_lemmas)

text_layer : (t : List ℕ) (x : Value) → value_cmp (Text t) x ≡ order_of (v.Text t) (out-Value x)
text_layer t x = search (rules, the_lemmas)

int_text : (n : ℤ) (t : List ℕ) → value_cmp (Int n) (Text t) ≡ Less
int_text n t = search (rules, the_lemmas)

text_int : (t : List ℕ) (n : ℤ) → value_cmp (Text t) (Int n) ≡ Greater
text_int t n = search (rules, the_lemmas)

int_truth : (n : ℤ) (b : Bool) → value_cmp (Int n) (Truth b) ≡ Less
int_truth n b = search (rules, the_lemmas)

truth_text : (b : Bool) (t : List ℕ) → value_cmp (Truth b) (Text t) ≡ Greater
truth_text b t = search (rules, the_lemmas)

pub in_order : NumbersThenTextsThenAllElse
in_order n t x h = (int_text n t, int_layer n x ∙ int_first n (out-Value x) h, text_layer t x ∙ text_first t (out-Value x) h)

pub mixed : TruthTextAndNumber
mixed = (simp (int_text, int_truth) refl, simp (text_int, truth_text) refl)
