use Rattle.std.proofs.Common.{◌≡◌, ◌∙◌, ap, ◌+ℤ◌, pos, to_z, of_z, w32, arith}
use Rattle.std.proofs.lemmas.Int.{ints}
use Rattle.fm_voice.specs.Channel as meaning
use Rattle.fm_voice.specs.Channel.{Voice, last_at, fed_back, clamped}
use Rattle.fm_voice.proofs.Sounding.{one-is, two-is, three-is, four-is, heard-is, last_after-is, both_levels}
use Rattle.fm_voice.proofs.voice.sounding.Goals as goal

abbrev voice_of : goal.After-clamped → Voice
voice_of c = meaning.channel_voice c.args.algorithm c.args.feedback c.args.phases.now c.args.attenuations.now c.args.last.now

one : (c : goal.After-clamped) → c.output-one.result ≡ meaning.one (voice_of c)
one c =
    let older = c.requires.last 0 (pos 0) (omega arith) in
    let newer = c.requires.last 1 (pos 0) (omega arith) in
    let sum : to_z w32 (of_z w32 (to_z w32 (of_z w32 (last_at c.args.last.now 0)) +ℤ to_z w32 (of_z w32 (last_at c.args.last.now 1)))) ≡ last_at c.args.last.now 0 +ℤ last_at c.args.last.now 1 = omega (arith, ints, older.0, older.1, newer.0, newer.1) in
    let f : to_z w32 (of_z w32 c.fed_back.result) ≡ c.fed_back.result = omega (arith, ints) in
    one-is (voice_of c) _ _ (f ∙ c.fed_back.ensures.value ∙ ap (fed_back c.args.feedback) sum) c.output-one.ensures.value

two : (c : goal.After-clamped) → c.modulated-two.result ≡ meaning.two (voice_of c)
two c =
    let a : to_z w32 (of_z w32 c.output-one.result) ≡ c.output-one.result = omega (arith, ints) in
    let s : to_z w32 (of_z w32 c.into_two.result) ≡ c.into_two.result = omega (arith, ints) in
    two-is (voice_of c) _ _ _ (a ∙ one c) (s ∙ c.into_two.ensures.value) c.modulated-two.ensures.value

three : (c : goal.After-clamped) → c.modulated-three.result ≡ meaning.three (voice_of c)
three c =
    let a : to_z w32 (of_z w32 c.output-one.result) ≡ c.output-one.result = omega (arith, ints) in
    let b : to_z w32 (of_z w32 c.modulated-two.result) ≡ c.modulated-two.result = omega (arith, ints) in
    let s : to_z w32 (of_z w32 c.into_three.result) ≡ c.into_three.result = omega (arith, ints) in
    three-is (voice_of c) _ _ _ _ (a ∙ one c) (b ∙ two c) (s ∙ c.into_three.ensures.value) c.modulated-three.ensures.value

four : (c : goal.After-clamped) → c.modulated-four.result ≡ meaning.four (voice_of c)
four c =
    let a : to_z w32 (of_z w32 c.output-one.result) ≡ c.output-one.result = omega (arith, ints) in
    let b : to_z w32 (of_z w32 c.modulated-two.result) ≡ c.modulated-two.result = omega (arith, ints) in
    let d : to_z w32 (of_z w32 c.modulated-three.result) ≡ c.modulated-three.result = omega (arith, ints) in
    let s : to_z w32 (of_z w32 c.into_four.result) ≡ c.into_four.result = omega (arith, ints) in
    four-is (voice_of c) _ _ _ _ _ (a ∙ one c) (b ∙ two c) (d ∙ three c) (s ∙ c.into_four.ensures.value) c.modulated-four.ensures.value

pub returns-clause-value : goal.returns-clause-value
returns-clause-value c =
    let a : to_z w32 (of_z w32 c.output-one.result) ≡ c.output-one.result = omega (arith, ints) in
    let b : to_z w32 (of_z w32 c.modulated-two.result) ≡ c.modulated-two.result = omega (arith, ints) in
    let d : to_z w32 (of_z w32 c.modulated-three.result) ≡ c.modulated-three.result = omega (arith, ints) in
    let e : to_z w32 (of_z w32 c.modulated-four.result) ≡ c.modulated-four.result = omega (arith, ints) in
    let s : to_z w32 (of_z w32 c.carried.result) ≡ c.carried.result = omega (arith, ints) in
    let o : to_z w32 (of_z w32 c.clamped.result) ≡ c.clamped.result = omega (arith, ints) in
    o ∙ heard-is (voice_of c) _ _ _ _ _ _ (a ∙ one c) (b ∙ two c) (d ∙ three c) (e ∙ four c) (s ∙ c.carried.ensures.value) c.clamped.ensures.value

pub returns-clause-last : goal.returns-clause-last
returns-clause-last c =
    let newer = c.requires.last 1 (pos 0) (omega arith) in
    let a : to_z w32 (of_z w32 c.output-one.result) ≡ c.output-one.result = omega (arith, ints) in
    let n : to_z w32 (of_z w32 (last_at c.args.last.now 1)) ≡ last_at c.args.last.now 1 = omega (arith, ints, newer.0, newer.1) in
    last_after-is (voice_of c) _ _ n (a ∙ one c)

pub returns-clause-kept : goal.returns-clause-kept
returns-clause-kept c =
    let newer = c.requires.last 1 (pos 0) (omega arith) in
    both_levels _ _ (omega (arith, ints, newer.0, newer.1), omega (arith, ints, newer.0, newer.1)) (omega (arith, ints), omega (arith, ints))
