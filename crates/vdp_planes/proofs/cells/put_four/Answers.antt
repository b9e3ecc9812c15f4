use Rattle.std.proofs.Common.{◌≡◌, ◌∙◌, ◌+◌, ◌*◌, ◌/◌, ◌%◌, arith}
use Rattle.vdp_planes.specs.View.{clear}
use Rattle.vdp_planes.specs.Planes.{pixel_dot, pixel_of}
use Rattle.vdp_planes.proofs.Spread.{four_filled, word-below, word_at_place}
use Rattle.vdp_planes.proofs.cells.put_four.Goals as goal

pub of_word-requires : goal.of_word-requires
of_word-requires c =
    let lane = c.requires.words 0 (omega arith) in
    let word : c.args.words % 65536 ≡ c.args.name / 32768 % 2 * 256 + c.args.name / 8192 % 4 * 16 + pixel_of c.args.pixels (c.args.column + 0) = omega (arith, lane) in
    word-below c.args.name c.args.pixels (c.args.column + 0) _ word

pub of_word-requires-2 : goal.of_word-requires-2
of_word-requires-2 c =
    let lane = c.requires.words 1 (omega arith) in
    let word : c.args.words / 65536 % 65536 ≡ c.args.name / 32768 % 2 * 256 + c.args.name / 8192 % 4 * 16 + pixel_of c.args.pixels (c.args.column + 1) = omega (arith, lane) in
    word-below c.args.name c.args.pixels (c.args.column + 1) _ word

pub of_word-requires-3 : goal.of_word-requires-3
of_word-requires-3 c =
    let lane = c.requires.words 2 (omega arith) in
    let word : c.args.words / 4294967296 % 65536 ≡ c.args.name / 32768 % 2 * 256 + c.args.name / 8192 % 4 * 16 + pixel_of c.args.pixels (c.args.column + 2) = omega (arith, lane) in
    word-below c.args.name c.args.pixels (c.args.column + 2) _ word

pub of_word-requires-4 : goal.of_word-requires-4
of_word-requires-4 c =
    let lane = c.requires.words 3 (omega arith) in
    let word : c.args.words / 281474976710656 % 65536 ≡ c.args.name / 32768 % 2 * 256 + c.args.name / 8192 % 4 * 16 + pixel_of c.args.pixels (c.args.column + 3) = omega (arith, lane) in
    word-below c.args.name c.args.pixels (c.args.column + 3) _ word

pub returns : goal.returns
returns c =
    let lane0 = c.requires.words 0 (omega arith) in
    let word0 : c.args.words % 65536 ≡ c.args.name / 32768 % 2 * 256 + c.args.name / 8192 % 4 * 16 + pixel_of c.args.pixels (c.args.column + 0) = omega (arith, lane0) in
    let dot0 = c.of_word.ensures ∙ word_at_place c.args.name c.args.pixels c.args.column c.args.from 0 _ word0 in
    let lane1 = c.requires.words 1 (omega arith) in
    let word1 : c.args.words / 65536 % 65536 ≡ c.args.name / 32768 % 2 * 256 + c.args.name / 8192 % 4 * 16 + pixel_of c.args.pixels (c.args.column + 1) = omega (arith, lane1) in
    let dot1 = c.of_word-2.ensures ∙ word_at_place c.args.name c.args.pixels c.args.column c.args.from 1 _ word1 in
    let lane2 = c.requires.words 2 (omega arith) in
    let word2 : c.args.words / 4294967296 % 65536 ≡ c.args.name / 32768 % 2 * 256 + c.args.name / 8192 % 4 * 16 + pixel_of c.args.pixels (c.args.column + 2) = omega (arith, lane2) in
    let dot2 = c.of_word-3.ensures ∙ word_at_place c.args.name c.args.pixels c.args.column c.args.from 2 _ word2 in
    let lane3 = c.requires.words 3 (omega arith) in
    let word3 : c.args.words / 281474976710656 % 65536 ≡ c.args.name / 32768 % 2 * 256 + c.args.name / 8192 % 4 * 16 + pixel_of c.args.pixels (c.args.column + 3) = omega (arith, lane3) in
    let dot3 = c.of_word-4.ensures ∙ word_at_place c.args.name c.args.pixels c.args.column c.args.from 3 _ word3 in
    four_filled clear (c.args.from + c.args.column) c.args.out.now (pixel_dot c.args.name c.args.pixels 0 c.args.from) c.of_word.result c.of_word-2.result c.of_word-3.result c.of_word-4.result
    c.requires.whole (omega arith) dot0 dot1 dot2 dot3
