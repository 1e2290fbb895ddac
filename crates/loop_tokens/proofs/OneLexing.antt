-- Each line holds one list of tokens.
use Rattle.std.proofs.Common.{◌≡◌, ◌≢◌, ℕ, zero, suc, ◌<◌, ◌≤◌, Bool, true, false, cond, eqb, List, [], ◌∷◌, length, take, drop, Option, Some, None, is_some, option_map, ◌⊎◌, inl, inr, ⊎_elim, refl, ap, sym, ◌∙◌, subst, arith}
use Rattle.std.proofs.lemmas.Bool.{cases_lt}
use Rattle.std.proofs.lemmas.Bool.Decides.{nat_tests}
use Rattle.loop_tokens.specs.declared.token.Token.{Token}
use Rattle.loop_tokens.specs.declared.token.Token.TheVariants as token
use Rattle.loop_tokens.specs.declared.sign.Sign.{Sign}
use Rattle.loop_tokens.specs.Bytes.{is_blank}
use Rattle.loop_tokens.specs.Tokens.{token_of, is_token, IsLongestFront, Longest, NoToken, ends, Holds}
use Rattle.loop_tokens.specs.Laws.{OneLexing, SomeTokens}
use Rattle.loop_tokens.proofs.Holding.{sized}

same_cond : {X : Type 0} (t : Bool) (x : X) → cond t x x ≡ x
same_cond true x = refl
same_cond false x = refl

none_32 : (xs : List ℕ) → token_of (32 ∷ xs) ≡ None
none_32 [] = refl
none_32 (c ∷ []) = ap (option_map token.Sign) (same_cond {X = Option Sign} (eqb c 61) None)
none_32 (c ∷ d ∷ xs) = refl

none_9 : (xs : List ℕ) → token_of (9 ∷ xs) ≡ None
none_9 [] = refl
none_9 (c ∷ []) = ap (option_map token.Sign) (same_cond {X = Option Sign} (eqb c 61) None)
none_9 (c ∷ d ∷ xs) = refl

none_35 : (xs : List ℕ) → token_of (35 ∷ xs) ≡ None
none_35 [] = refl
none_35 (c ∷ []) = ap (option_map token.Sign) (same_cond {X = Option Sign} (eqb c 61) None)
none_35 (c ∷ d ∷ xs) = refl

blank_cases : (b : ℕ) → is_blank b ≡ true → (b ≡ 32) ⊎ (b ≡ 9)
blank_cases b h = by (eqb b 32) refl where
  by : (t : Bool) → eqb b 32 ≡ t → (b ≡ 32) ⊎ (b ≡ 9)
  by true e = inl (grind (arith, nat_tests))
  by false e = inr (grind (arith, nat_tests))

none_blank : (b : ℕ) (xs : List ℕ) → is_blank b ≡ true → token_of (b ∷ xs) ≡ None
none_blank b xs h =
    let P : ℕ → Type 0 = λ v. token_of (v ∷ xs) ≡ None in
    ⊎_elim (λ e. subst P (sym e) (none_32 xs)) (λ e. subst P (sym e) (none_9 xs)) (blank_cases b h)

-- a longest token begins with a byte that begins a token
starts : (b : ℕ) (bs rest : List ℕ) (t : Token) → ((xs : List ℕ) → token_of (b ∷ xs) ≡ None) → Longest t (b ∷ bs) rest → ⊥
starts b bs rest t none l = by l.size l.is where
  by : (n : ℕ) → token_of (take n (b ∷ bs)) ≡ Some t → ⊥
  by zero is = cc
  by (suc n) is = let not : token_of (b ∷ take n bs) ≡ None = none (take n bs) in absurd (cc (sym not ∙ is))

no_token : (bytes rest : List ℕ) (t : Token) → NoToken bytes → Longest t bytes rest → ⊥
no_token bytes rest t none l = absurd (let not : is_token (take l.size bytes) ≡ false = none l.size l.front.within in let passes = l.front.passes in cc (sym not ∙ passes))

at_end : (bytes rest : List ℕ) (t : Token) → ends bytes ≡ true → Longest t bytes rest → ⊥
at_end [] rest t h l = by l.size l.is where
  by : (n : ℕ) → token_of (take n []) ≡ Some t → ⊥
  by zero is = cc
  by (suc n) is = cc
at_end (b ∷ bs) rest t h l = let hash : b ≡ 35 = grind (arith, nat_tests) in starts b bs rest t (λ xs. (let P : ℕ → Type 0 = λ v. token_of (v ∷ xs) ≡ None in subst P (sym hash) (none_35 xs))) l

end_blank : (b : ℕ) → eqb b 35 ≡ true → is_blank b ≡ true → ⊥
end_blank b h g = grind (arith, nat_tests)

not_below : (test : List ℕ → Bool) (bytes : List ℕ) (n m : ℕ) → IsLongestFront test bytes n → IsLongestFront test bytes m → n < m → ⊥
not_below test bytes n m f g lt = absurd (cc (sym (f.longest m lt g.within) ∙ g.passes))

sizes : (test : List ℕ → Bool) (bytes : List ℕ) (n m : ℕ) → IsLongestFront test bytes n → IsLongestFront test bytes m → n ≡ m
sizes test bytes n m f g = ⊎_elim (λ lt. absurd (not_below test bytes n m f g lt)) (λ ge. ⊎_elim (λ lt. absurd (not_below test bytes m n g f lt)) (λ le. omega arith) (cases_lt m n)) (cases_lt n m)

pub longest_same : (t u : Token) (bytes rest also : List ℕ) → Longest t bytes rest → Longest u bytes also → (t ≡ u) × (rest ≡ also)
longest_same t u bytes rest also l k =
    let size : l.size ≡ k.size = sizes is_token bytes l.size k.size l.front k.front in
    let both : ◌≡◌ {A = Option Token} (Some t) (Some u) = sym l.is ∙ ap (λ n. token_of (take n bytes)) size ∙ k.is in
    (cc, l.behind ∙ ap (λ n. drop n bytes) size ∙ sym k.behind)

pub holds_same : {line : List ℕ} {ts us : List Token} {whole also : Bool} → Holds line ts whole → Holds line us also → (ts ≡ us) × (whole ≡ also)
holds_same (Holds.end h) (Holds.end g) = (refl, refl)
holds_same (Holds.end h) (Holds.stuck {b = b} n m none) = absurd (m (grind (arith, nat_tests)))
holds_same (Holds.end h) (Holds.blank {b = b} g q) = absurd (end_blank b h g)
holds_same (Holds.end h) (Holds.token l q) = absurd (at_end _ _ _ h l)
holds_same (Holds.stuck {b = b} n m none) (Holds.end g) = absurd (m (grind (arith, nat_tests)))
holds_same (Holds.stuck n m none) (Holds.stuck n' m' none') = (refl, refl)
holds_same (Holds.stuck n m none) (Holds.blank g q) = absurd (cc (sym n ∙ g))
holds_same (Holds.stuck n m none) (Holds.token l q) = absurd (no_token _ _ _ none l)
holds_same (Holds.blank {b = b} h p) (Holds.end g) = absurd (end_blank b g h)
holds_same (Holds.blank h p) (Holds.stuck n m none) = absurd (cc (sym n ∙ h))
holds_same (Holds.blank h p) (Holds.blank g q) = holds_same p q
holds_same (Holds.blank {b = b} h p) (Holds.token {t = t} {rest = rest} l q) = absurd (starts b _ rest t (λ xs. none_blank b xs h) l)
holds_same (Holds.token l p) (Holds.end g) = absurd (at_end _ _ _ g l)
holds_same (Holds.token l p) (Holds.stuck n m none) = absurd (no_token _ _ _ none l)
holds_same (Holds.token {t = t} {rest = rest} l p) (Holds.blank {b = b} g q) = absurd (starts b _ rest t (λ xs. none_blank b xs g) l)
holds_same (Holds.token {t = t} {bytes = bytes} {rest = rest} {ts = ts} {whole = whole} l p) (Holds.token {t = u} {rest = also} {ts = us} k q) =
    let two = longest_same t u bytes rest also l k in
    let P : List ℕ → Type 0 = λ vs. Holds vs ts whole in
    let later = holds_same (subst P two.1 p) q in
    (ap (λ w. w ∷ ts) two.0 ∙ ap (λ vs. u ∷ vs) later.0, later.1)

pub one_lexing : OneLexing
one_lexing line ts us whole also p q = holds_same p q

-- ---- some tokens

-- among the fronts of at most k bytes none passes, or one is the longest that does
abbrev Best : (List ℕ → Bool) → List ℕ → ℕ → Type 0
Best test bytes k = ((n : ℕ) → n ≤ k → test (take n bytes) ≡ false) ⊎ ((n : ℕ) × (n ≤ k) × (test (take n bytes) ≡ true) × ((m : ℕ) → n < m → m ≤ k → test (take m bytes) ≡ false))

best_more : (test : List ℕ → Bool) (bytes : List ℕ) (k : ℕ) (t : Bool) → test (take (suc k) bytes) ≡ t → Best test bytes k → Best test bytes (suc k)
best_more test bytes k true h b = inr (suc k, omega arith, h, λ m lt le. absurd (omega arith))
best_more test bytes k false h b = ⊎_elim (λ none. inl (λ n le. here n le (none n))) (λ w. inr (w.0, omega (arith, w.1), w.2, λ m lt le. here m le (w.3 m lt))) b where
  here : (n : ℕ) → n ≤ suc k → (n ≤ k → test (take n bytes) ≡ false) → test (take n bytes) ≡ false
  here n le before = ⊎_elim (λ less. before (omega arith)) (λ ge. (let same : n ≡ suc k = omega arith in rw same h)) (cases_lt n (suc k))

best_first : (test : List ℕ → Bool) (bytes : List ℕ) (t : Bool) → test (take 0 bytes) ≡ t → Best test bytes 0
best_first test bytes true h = inr (0, omega arith, h, λ m lt le. absurd (omega arith))
best_first test bytes false h = inl (λ n le. (let same : n ≡ 0 = omega arith in rw same h))

best : (test : List ℕ → Bool) (bytes : List ℕ) (k : ℕ) → Best test bytes k
best test bytes zero = best_first test bytes (test (take 0 bytes)) refl
best test bytes (suc k) = best_more test bytes k (test (take (suc k) bytes)) refl (best test bytes k)

some_of : (o : Option Token) → is_some o ≡ true → (t : Token) × (o ≡ Some t)
some_of (Some t) h = (t, refl)
some_of None h = cc

abbrev pub Lexed : List ℕ → Type 0
Lexed line = (ts : List Token) × (whole : Bool) × Holds line ts whole

at_other : (b : ℕ) (bs : List ℕ) → is_blank b ≡ false → b ≢ 35 → ((rest : List ℕ) → length rest < length (b ∷ bs) → Lexed rest) → Lexed (b ∷ bs)
at_other b bs n m later = ⊎_elim (λ none. ([], false, Holds.stuck n m none)) found (best is_token (b ∷ bs) (length (b ∷ bs))) where
  found : (k : ℕ) × (k ≤ length (b ∷ bs)) × (is_token (take k (b ∷ bs)) ≡ true) × ((j : ℕ) → k < j → j ≤ length (b ∷ bs) → is_token (take j (b ∷ bs)) ≡ false) → Lexed (b ∷ bs)
  found w =
      let which = some_of (token_of (take w.0 (b ∷ bs))) w.2 in
      let less = sized w.0 (b ∷ bs) which.0 which.1 in
      let rest = later (drop w.0 (b ∷ bs)) less in
      (which.0 ∷ rest.0, rest.1, Holds.token (record { size = w.0; front = record { within = w.1; passes = w.2; longest = w.3 }; is = which.1; behind = refl }) rest.2)

at_first : (b : ℕ) (bs : List ℕ) (s t : Bool) → is_blank b ≡ s → eqb b 35 ≡ t → ((rest : List ℕ) → length rest < length (b ∷ bs) → Lexed rest) → Lexed (b ∷ bs)
at_first b bs true t h e later = let rest = later bs (omega arith) in (rest.0, rest.1, Holds.blank h rest.2)
at_first b bs false true h e later = ([], true, Holds.end e)
at_first b bs false false h e later = at_other b bs h (grind (arith, nat_tests)) later

lexed : (n : ℕ) (line : List ℕ) → length line < n → Lexed line
lexed zero line lt = absurd (omega arith)
lexed (suc n) [] lt = ([], true, Holds.end refl)
lexed (suc n) (b ∷ bs) lt = at_first b bs (is_blank b) (eqb b 35) refl refl (λ rest less. lexed n rest (omega arith))

pub some_tokens : SomeTokens
some_tokens line = lexed (suc (length line)) line (omega arith)
