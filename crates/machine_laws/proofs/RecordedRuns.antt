-- A run with another recording.
use Rattle.std.proofs.Common.{◌≡◌, ◌∙◌, refl, sym, ap, ap₂, subst, ℕ, zero, suc, ◌<◌, ◌≤◌, Bool, List, ◌++◌, arith}
use Rattle.md_word.specs.declared.event.Entry.{Entry}
use Rattle.md_word.specs.declared.key.Key.{Key}
use Rattle.md_pads.specs.Recording.{Frame}
use Rattle.md_chips.specs.Console.{AllBelow, Console, IsRunTo, journal, key_in, media_after, moved, mover, ran, rendered, reported}
use Rattle.md_chips.specs.Media.{Media, joined}
use Rattle.md_chips.specs.Movers.{mover-lt}
use Rattle.md_chips.proofs.Regions.{ran_stays}
use Rattle.machine_laws.specs.Recorded.{AreAlikeBelow, with_frames}
use Rattle.machine_laws.proofs.RecordedMoves.{moved-with, rendered-with, reported-with}

-- the recording is no part of the keys
key-with : (s : List Frame) (m : Console) (i : ℕ) → key_in (with_frames s m) i ≡ key_in m i
unfolding key_in
key-with s m i = refl

mover-with : (s : List Frame) (m : Console) → mover (with_frames s m) ≡ mover m
unfolding mover key_in
mover-with s m = refl

next-with : (s : List Frame) (m : Console) → key_in (with_frames s m) (mover (with_frames s m)) ≡ key_in m (mover m)
next-with s m = key-with s m (mover (with_frames s m)) ∙ ap (key_in m) (mover-with s m)

-- a move of both
move-both : (s : List Frame) (end : ℕ) (m : Console) → AreAlikeBelow m.shared.vdp.pal end m.shared.recording.frames s → (key_in m (mover m)).cycle < end
    → with_frames s (moved m (mover m)) ≡ moved (with_frames s m) (mover (with_frames s m))
move-both s end m alike below =
    moved-with s end m alike (mover m) (mover-lt m) below ∙ ap (moved (with_frames s m)) (sym (mover-with s m))

reported-both : (s : List Frame) (m : Console) → reported m (mover m) ≡ reported (with_frames s m) (mover (with_frames s m))
reported-both s m = sym (reported-with s m (mover m) (mover-lt m)) ∙ ap (reported (with_frames s m)) (sym (mover-with s m))

rendered-both : (s : List Frame) (m : Console) → rendered m (mover m) ≡ rendered (with_frames s m) (mover (with_frames s m))
rendered-both s m = sym (rendered-with s m (mover m) (mover-lt m)) ∙ ap (rendered (with_frames s m)) (sym (mover-with s m))

-- a machine that has a recording
abbrev Has : List Frame → Console → Type 0
Has r m = with_frames r m ≡ m

has-alike : (r s : List Frame) (pal : Bool) (end : ℕ) (m : Console) → Has r m → m.shared.vdp.pal ≡ pal → AreAlikeBelow pal end r s → AreAlikeBelow m.shared.vdp.pal end m.shared.recording.frames s
has-alike r s pal end m has region alike =
    subst (λ (b : Bool). AreAlikeBelow b end m.shared.recording.frames s) (sym region)
    (subst (λ (x : List Frame). AreAlikeBelow pal end x s) (ap (λ (x : Console). x.shared.recording.frames) has) alike)

-- after as many moves they still differ in the recording alone, with the same entries, frames and samples
record Alike (r s : List Frame) (n : ℕ) (m : Console) : Type 0 where
  has : Has r (ran (with_frames r m) n)
  console : with_frames s (ran (with_frames r m) n) ≡ ran (with_frames s m) n
  entered : journal (with_frames r m) n ≡ journal (with_frames s m) n
  shown : media_after (with_frames r m) n ≡ media_after (with_frames s m) n

alike_after : (r s : List Frame) (end : ℕ) (m : Console) → AreAlikeBelow m.shared.vdp.pal end r s → (n : ℕ) → AllBelow (with_frames r m) end n → Alike r s n m
unfolding ran journal media_after
alike_after r s end m same zero below = record { has = refl; console = refl; entered = refl; shown = refl }
alike_after r s end m same (suc n) below =
    let before : Alike r s n m = alike_after r s end m same n (λ k less. below k (omega arith)) in
    let a : Console = ran (with_frames r m) n in
    let order : (key_in a (mover a)).cycle < end = below n (omega arith) in
    let region : a.shared.vdp.pal ≡ m.shared.vdp.pal = (ran_stays (with_frames r m) n).region in
    let own : with_frames r (moved a (mover a)) ≡ moved (with_frames r a) (mover (with_frames r a)) =
    move-both r end a (has-alike r r m.shared.vdp.pal end a before.has region (λ f early. refl)) order in
    let other : with_frames s (moved a (mover a)) ≡ moved (with_frames s a) (mover (with_frames s a)) =
    move-both s end a (has-alike r s m.shared.vdp.pal end a before.has region same) order in
    record {
      has = own ∙ ap (λ (x : Console). moved x (mover x)) before.has;
      console = other ∙ ap (λ (x : Console). moved x (mover x)) before.console;
      entered = ap₂ (λ (x y : List Entry). x ++ y) before.entered (reported-both s a ∙ ap (λ (x : Console). reported x (mover x)) before.console);
      shown = ap₂ joined before.shown (rendered-both s a ∙ ap (λ (x : Console). rendered x (mover x)) before.console);
    }

-- the run with the other recording
pub run-with : (m z : Console) (r s : List Frame) (end : ℕ) (entries : List Entry) (output : Media) → AreAlikeBelow m.shared.vdp.pal end r s
    → IsRunTo (with_frames r m) end z entries output → IsRunTo (with_frames s m) end (with_frames s z) entries output
run-with m z r s end entries output same run =
    let all : Alike r s run.moves m = alike_after r s end m same run.moves run.below in
    record {
      moves = run.moves;
      below = λ k less.
          let stage : Alike r s k m = alike_after r s end m same k (λ j lower. run.below j (omega arith)) in
          subst (λ (x : Key). x.cycle < end)
          (sym (next-with s (ran (with_frames r m) k)) ∙ ap (λ (x : Console). key_in x (mover x)) stage.console)
          (run.below k less);
      quiet = λ i below. subst (λ (x : Key). end ≤ x.cycle) (sym (key-with s z i)) (run.quiet i below);
      console = ap (with_frames s) run.console ∙ all.console;
      entered = run.entered ∙ all.entered;
      rendered_to = run.rendered_to ∙ all.shown;
    }
