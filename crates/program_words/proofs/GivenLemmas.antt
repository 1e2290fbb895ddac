-- That each setting is given of which none is missing.
use Rattle.std.proofs.Common.{◌≡◌, ℕ, subst, Bool, true, false, List, [], ◌∷◌, Option, Some, None, Result, Ok, Err, refl, ap, sym, ◌∙◌}
use Rattle.std.specs.Prelude.{IfOk, IsSome, is_none, find}
use Rattle.std.specs.List.{All}
use Rattle.std.proofs.lemmas.List.Elements.{All-cons, All-nil}
use Rattle.program_words.specs.declared.setting.Setting.{Setting}
use Rattle.program_words.specs.declared.command.Command.{Command}
use Rattle.program_words.specs.declared.command.Call.{Call}
use Rattle.program_words.specs.declared.request.Request.{Request as Given}
use Rattle.program_words.specs.declared.refusal.Refusal.{Refusal}
use Rattle.program_words.specs.Commands.{required_of, is_served}
use Rattle.program_words.specs.Requests.{Request, checked, command_request, first_refusal, unless, with_all}
use Rattle.program_words.specs.Settings.{setting_name}
use Rattle.program_words.specs.Views.{answer_seen, request_seen}
use Rattle.program_words.specs.Words.{first_missing, is_missing, value_in}

-- the words give the setting
abbrev pub IsGiven : List (List ℕ) → Setting → Type 0
IsGiven words s = IsSome (value_in (setting_name s) words)

some_there : {A : Type 0} (o : Option A) → is_none o ≡ false → IsSome o
some_there None e = absurd (cc e)
some_there (Some x) e = refl

given_on : (s : Setting) (ss : List Setting) (words : List (List ℕ)) (b : Bool) → is_missing words s ≡ b →
    (first_missing ss words ≡ None → All (IsGiven words) ss) → first_missing (s ∷ ss) words ≡ None → All (IsGiven words) (s ∷ ss)
given_on s ss words true m rest e = let found : first_missing (s ∷ ss) words ≡ Some s = rw m refl in absurd (cc (e, found))
given_on s ss words false m rest e =
    let none : first_missing ss words ≡ None = rw m at e in
    All-cons (IsGiven words) s ss (some_there (value_in (setting_name s) words) m) (rest none)

all_given : (settings : List Setting) (words : List (List ℕ)) → first_missing settings words ≡ None → All (IsGiven words) settings
all_given [] words e = All-nil (IsGiven words)
all_given (s ∷ ss) words e = given_on s ss words (is_missing words s) refl (all_given ss words) e

-- each setting that a request's command must be given is there
abbrev pub HasRequired : Request → Type 0
HasRequired r = All (IsGiven r.settings) (required_of r.command)

checked_has : (c : Command) (words : List (List ℕ)) (refusal : Option (List ℕ)) (missing : Option Setting) (r : Request) →
    first_missing (required_of c) words ≡ missing → unless refusal (with_all c words missing) ≡ Ok r → HasRequired r
checked_has c words (Some text) missing r m e = absurd (cc e)
checked_has c words None (Some s) r m e = absurd (cc e)
checked_has c words None None r m e =
    let same : record { command = c; settings = words } ≡ r = cc e in
    subst HasRequired same (all_given (required_of c) words m)

request_has : (call : Call) (c : Command) (words : List (List ℕ)) (served : Bool) (r : Request) → is_served call c ≡ served →
    command_request call c words ≡ Ok r → HasRequired r
request_has call c words true r s e =
    let same : command_request call c words ≡ checked c words = rw s refl in
    checked_has c words (first_refusal c [] words) (first_missing (required_of c) words) r refl (sym same ∙ e)
request_has call c words false r s e = absurd (cc (rw s at e))

-- the same of what the request of a command is seen as
pub required_given : (call : Call) (c : Command) (words : List (List ℕ)) (result : Result Given Refusal) → answer_seen result ≡ command_request call c words →
    IfOk result (λ r. HasRequired (request_seen r))
required_given call c words (Ok r) e = request_has call c words (is_served call c) (request_seen r) refl (sym e)
required_given call c words (Err r) e = tt
