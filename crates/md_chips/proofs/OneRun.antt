-- Two runs from one machine to one cycle are equal.
use Rattle.std.proofs.Common.{◌≡◌, ℕ, ◌<◌, ◌≤◌, inl, inr, List, sym, ap, ◌∙◌, subst, arith}
use Rattle.std.proofs.lemmas.Bool.{cases_lt}
use Rattle.md_word.specs.declared.event.Entry.{Entry}
use Rattle.md_chips.specs.Console.{AllBelow, Console, IsRunTo, journal, key_in, media_after, mover, ran}
use Rattle.md_chips.specs.Media.{Media}
use Rattle.md_chips.specs.Movers.{mover-lt}

-- after a run's last move no other is below its end
no-more : (m w : Console) (end n : ℕ) (entries : List Entry) (output : Media) → AllBelow m end n → (one : IsRunTo m end w entries output) → n ≤ one.moves
no-more m w end n entries output below one = elim (cases_lt one.moves n) [
  | inl more ↦ absurd (
      let low : (key_in (ran m one.moves) (mover (ran m one.moves))).cycle < end = below one.moves more in
      let late : end ≤ (key_in (ran m one.moves) (mover (ran m one.moves))).cycle =
      subst (λ (x : Console). end ≤ (key_in x (mover x)).cycle) one.console (one.quiet (mover w) (mover-lt w)) in
      omega (arith, low, late))
  | inr few ↦ few
]

pub same-run : (m w z : Console) (end : ℕ) (first second : List Entry) (output other : Media)
    → IsRunTo m end w first output → IsRunTo m end z second other → (w ≡ z) × (first ≡ second) × (output ≡ other)
same-run m w z end first second output other one two =
    let up : one.moves ≤ two.moves = no-more m z end one.moves second other one.below two in
    let down : two.moves ≤ one.moves = no-more m w end two.moves first output two.below one in
    let same : one.moves ≡ two.moves = omega (arith, up, down) in (
      one.console ∙ ap (ran m) same ∙ sym two.console,
      one.entered ∙ ap (journal m) same ∙ sym two.entered,
      one.rendered_to ∙ ap (media_after m) same ∙ sym two.rendered_to,
    )
