use Rattle.std.proofs.Common.{◌≡◌, Option, None, ℕ, sym, refl, false, rules}
use Rattle.std.specs.List.{list_all}
use Rattle.loop_tokens.specs.Bytes.{is_digit, is_word_byte}
use Rattle.loop_tokens.specs.Signs.{is_sign}
use Rattle.loop_tokens.specs.Keywords.{is_at_word}
use Rattle.loop_tokens.specs.Tokens.{is_token, closes}
use Rattle.loop_tokens.proofs.Fronts.{front_cons, none_cons, front_run, match_same}
use Rattle.loop_tokens.proofs.FirstBytes.{letter_token, digit_token, quote_token, at_token, sign_token}
use Rattle.loop_tokens.proofs.lex.token_len.Goals as goal

pub returns-then-is_letter : goal.returns-then-is_letter
returns-then-is_letter c = rw c.word_len.ensures.run (front_cons is_token (list_all is_word_byte) c.args.first c.args.rest.now _
    (λ xs. letter_token c.args.first xs (sym c.if-is_letter.ensures)) (front_run is_word_byte c.args.rest.now))

pub returns-then-is_digit : goal.returns-then-is_digit
returns-then-is_digit c = rw c.digits_len.ensures.run (front_cons is_token (list_all is_digit) c.args.first c.args.rest.now _
    (λ xs. digit_token c.args.first xs (sym c.if-is_letter.ensures) (sym c.if-is_digit.ensures)) (front_run is_digit c.args.rest.now))

pub returns-in_err-text_len : goal.returns-in_err-text_len
returns-in_err-text_len c =
    let none : ◌≡◌ {A = Option ℕ} c.from_residual.result None = search rules in
    rw none (none_cons is_token (closes false) c.args.first c.args.rest.now (λ xs. quote_token c.args.first xs c.if-first-eq34.true) refl c.in_err-text_len.ensures)

pub returns-in_ok-text_len : goal.returns-in_ok-text_len
returns-in_ok-text_len c = front_cons is_token (closes false) c.args.first c.args.rest.now _ (λ xs. quote_token c.args.first xs c.if-first-eq34.true) c.in_ok-text_len.ensures

pub returns-in_err-at_len : goal.returns-in_err-at_len
returns-in_err-at_len c =
    let none : ◌≡◌ {A = Option ℕ} c.from_residual-in_err-at_len.result None = search rules in
    rw none (none_cons is_token is_at_word c.args.first c.args.rest.now (λ xs. at_token c.args.first xs c.if-first-eq64.true) refl c.in_err-at_len.ensures)

pub returns-in_ok-at_len : goal.returns-in_ok-at_len
returns-in_ok-at_len c = front_cons is_token is_at_word c.args.first c.args.rest.now _ (λ xs. at_token c.args.first xs c.if-first-eq64.true) c.in_ok-at_len.ensures

pub returns-else-first-eq64 : goal.returns-else-first-eq64
returns-else-first-eq64 c = match_same is_token is_sign c.args.first c.args.rest.now c.sign_len.result
    (λ xs. sign_token c.args.first xs (sym c.if-is_letter.ensures) (sym c.if-is_digit.ensures) c.if-first-eq34.false c.if-first-eq64.false) refl refl c.sign_len.ensures
