use Rattle.std.proofs.Common.{◌∙◌, ◌≡◌, arith, ap, pos, ◌+ℤ◌, to_z, of_z, w16, w32, w64}
use Rattle.std.proofs.lemmas.Int.{ints}
use Rattle.std.specs.Int.{int_div_euclid}
use Rattle.md_files.specs.Pair.{half, clamped}
use Rattle.md_files.proofs.Halves.{int_div_euclid-two}
use Rattle.md_files.proofs.pair.side.Goals as goal

pub returns : goal.returns
returns c =
    let same : to_z w32 (of_z w32 c.args.fm) ≡ c.args.fm = omega (arith, ints) in
    let halved : c.div_euclid.result ≡ half c.args.fm = c.div_euclid.ensures ∙ ap (λ z. int_div_euclid z (pos 2)) same ∙ int_div_euclid-two c.args.fm in
    let fits : to_z w16 (of_z w16 (to_z w64 (of_z w64 c.clamp.result))) ≡ c.clamp.result = omega (arith, ints) in
    let sum : to_z w64 (of_z w64 (to_z w64 (of_z w64 c.from.result) +ℤ to_z w64 (of_z w64 c.from-2.result))) ≡ half c.args.fm +ℤ c.args.psg = omega (arith, ints, halved) in
    fits ∙ c.clamp.ensures.value ∙ ap clamped sum
