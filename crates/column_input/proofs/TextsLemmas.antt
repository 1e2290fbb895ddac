-- A list of texts, as it grows.
use Rattle.std.proofs.Common.{◌≡◌, ◌∙◌, ◌≤◌, ◌-◌, ◌++◌, ℕ, List, [], ◌∷◌, length, refl, arith, length-append}
use Rattle.std.specs.Prelude.{IsUtf8}
use Rattle.std.proofs.lemmas.List.{drop-append-le, drop_all}
use Rattle.csv.proofs.RecordFacts.{cut-end, cut-more, last-append, rising-end, rising-more, text-more}
use Rattle.csv.specs.Records.{AllText, Rising, cut_from, last_end}
use Rattle.column_input.specs.Texts.{AreKept, texts_in}

-- no texts
pub kept_none : (bytes ends : List ℕ) → bytes ≡ [] → ends ≡ [] → AreKept bytes ends
unfolding Rising last_end AllText cut_from
kept_none bytes ends none no_ends =
    rw (none, no_ends) (record { rising = omega arith; full = refl; short = omega arith; text = tt })

pub texts_none : (bytes ends : List ℕ) → ends ≡ [] → texts_in bytes ends ≡ []
unfolding cut_from
texts_none bytes ends no_ends = rw no_ends refl

-- the bytes of one more text, before its end is put down
grown : (bytes ends text : List ℕ) → AreKept bytes ends → Rising 0 ends (length (bytes ++ text))
grown bytes ends text kept =
    let size = length-append bytes text in
    rising-more 0 ends (length bytes) (length (bytes ++ text)) kept.rising (omega arith)

-- one more text
texts_grown : (bytes ends text : List ℕ) → AreKept bytes ends
    → texts_in (bytes ++ text) (ends ++ length (bytes ++ text) ∷ []) ≡ texts_in bytes ends ++ text ∷ []
texts_grown bytes ends text kept =
    cut-end 0 ends (bytes ++ text) (grown bytes ends text kept)
    ∙ rw (cut-more 0 ends bytes text kept.rising, kept.full, drop-append-le (length bytes) bytes text (omega arith), drop_all (length bytes) bytes (omega arith)) refl

pub texts_more : (bytes ends text more places : List ℕ) (end : ℕ) → AreKept bytes ends → more ≡ bytes ++ text → places ≡ ends ++ end ∷ [] → end ≡ length more
    → texts_in more places ≡ texts_in bytes ends ++ text ∷ []
texts_more bytes ends text more places end kept after next is = rw (next, is, after) (texts_grown bytes ends text kept)

pub kept_more : (bytes ends text more places : List ℕ) (end : ℕ) → AreKept bytes ends → more ≡ bytes ++ text → places ≡ ends ++ end ∷ [] → end ≡ length more
    → IsUtf8 text → length text ≤ 4294967295 - length bytes → AreKept more places
kept_more bytes ends text more places end kept after next is utf8 fits =
    let size = length-append bytes text in
    let short = kept.short in
    rw (next, is, after) (record {
      rising = rising-end 0 ends (length (bytes ++ text)) (grown bytes ends text kept);
      full = last-append 0 ends (length (bytes ++ text));
      short = omega arith;
      text = rw (texts_grown bytes ends text kept) (text-more (texts_in bytes ends) text kept.text utf8);
    })
