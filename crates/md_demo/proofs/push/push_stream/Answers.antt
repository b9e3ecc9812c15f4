use Rattle.std.proofs.Common.{◌≡◌, ap, sym, ◌∙◌, arith}
use Rattle.rand_pcg.specs.Pcg.{pcg32}
use Rattle.md_demo.proofs.Streams.{words_end, words_more}
use Rattle.md_demo.proofs.push.push_stream.Goals as goal

pub words-preserved : goal.words-preserved
words-preserved c =
    let word_is : c.next_word.result ≡ (pcg32 c.words.generator).0 = ap (λ p. p.0) c.next_word.ensures in
    let later_is : c.next_word.new.self ≡ (pcg32 c.words.generator).1 = ap (λ p. p.1) c.next_word.ensures in
    rw (c.in_ok-extend_from_slice.ensures.items, c.to_be_bytes.ensures, word_is, later_is)
    (words_more c.words.bytes.items c.words.left c.words.generator (omega arith) ∙ c.words.invariant)

pub returns : goal.returns
returns c = sym (words_end _ _ _ (omega arith)) ∙ c.words.invariant
