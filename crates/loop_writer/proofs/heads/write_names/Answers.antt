use Rattle.std.proofs.Common.{◌≡◌, ◌∷◌, [], ◌++◌, ◌<◌, ℕ, List, length, nat_lt, false, refl, sym, subst, arith}
use Rattle.loop_tokens.specs.declared.token.Token.TheVariants as tok
use Rattle.loop_layout.specs.Layout.{marks_text}
use Rattle.loop_layout.specs.Canonical.{first, name_marks}
use Rattle.loop_writer.proofs.Lists.{listed_step}
use Rattle.loop_writer.proofs.heads.write_names.Goals as goal

-- the name at i was written, behind its comma
pub loop-i-preserved : goal.loop-i-preserved
loop-i-preserved c =
    let i = c.loop-i.i in
    let mid = c.write_comma.new.out.items in
    let new = c.write_name.new.out.items in
    let P : List ℕ → Type 0 = λ n. new ≡ mid ++ marks_text (first (nat_lt 0 i) (tok.Name n) ∷ []) in
    let within : i < length c.args.names.now = omega arith in
    listed_step name_marks c.args.names.now i c.index-names-i.result false (nat_lt 0 i) c.args.out.now.items c.loop-i.out.items mid new within (sym c.index-names-i.is) refl c.loop-i.invariant
    c.in_ok-write_comma.ensures (subst P c.as_str.ensures.bytes c.in_ok-write_name.ensures)
