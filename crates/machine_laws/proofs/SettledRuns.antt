-- A run of a machine that was settled, beside the run of one that was not.
use Rattle.std.proofs.Common.{◌≡◌, ◌∙◌, refl, sym, ap, ap₂, subst, ℕ, zero, suc, ◌<◌, ◌≤◌, List, ◌++◌, arith}
use Rattle.md_word.specs.declared.event.Entry.{Entry}
use Rattle.md_word.specs.declared.key.Key.{Key}
use Rattle.bus_shared.specs.Board.{Board}
use Rattle.md_chips.specs.Console.{Console, IsRunTo, journal, key_in, media_after, moved, mover, ran, rendered, reported}
use Rattle.md_chips.specs.Media.{Media, joined}
use Rattle.md_chips.specs.Movers.{mover-lt}
use Rattle.save_state.specs.States.{settled_console}
use Rattle.machine_laws.specs.Settling.{AllFrom, GoesOn}
use Rattle.machine_laws.proofs.SettledBoard.{settled-later}
use Rattle.machine_laws.proofs.SettledMoves.{moved-same, rendered-alike, reported-alike}

-- two machines that differ only in what was settled have the same keys, and so the same mover
key-alike : (e : ℕ) (m w : Console) → settled_console e m ≡ settled_console e w → (i : ℕ) → key_in m i ≡ key_in w i
unfolding key_in
key-alike e m w same i = ap (λ (x : Console). key_in x i) same

mover-alike : (e : ℕ) (m w : Console) → settled_console e m ≡ settled_console e w → mover m ≡ mover w
unfolding mover key_in
mover-alike e m w same = ap mover same

next-alike : (e : ℕ) (m w : Console) → settled_console e m ≡ settled_console e w → key_in m (mover m) ≡ key_in w (mover w)
next-alike e m w same = key-alike e m w same (mover m) ∙ ap (key_in w) (mover-alike e m w same)

console-later : (e c : ℕ) (m : Console) → e ≤ c → settled_console c (settled_console e m) ≡ settled_console c m
console-later e c m order = ap (λ (b : Board). record m { shared = b }) (settled-later e c m.shared order)

later-alike : (e c : ℕ) (m w : Console) → e ≤ c → settled_console e m ≡ settled_console e w → settled_console c m ≡ settled_console c w
later-alike e c m w order same = sym (console-later e c m order) ∙ ap (settled_console c) same ∙ console-later e c w order

-- after as many moves they still differ in that alone, with the same entries, frames and samples
record Alike (e n : ℕ) (m w : Console) : Type 0 where
  console : settled_console e (ran m n) ≡ settled_console e (ran w n)
  entered : journal m n ≡ journal w n
  shown : media_after m n ≡ media_after w n

-- a move of one and of the other
module _ (e : ℕ) (a b : Console) (same : settled_console e a ≡ settled_console e b) (order : e ≤ (key_in a (mover a)).cycle) where
  own : e ≤ (key_in b (mover a)).cycle
  own = subst (λ (k : Key). e ≤ k.cycle) (key-alike e a b same (mover a)) order

  moved-alike : settled_console e (moved a (mover a)) ≡ settled_console e (moved b (mover b))
  moved-alike =
      sym (moved-same a e (mover a) (mover-lt a) order)
      ∙ ap (λ (x : Console). settled_console e (moved x (mover a))) same
      ∙ moved-same b e (mover a) (mover-lt a) own
      ∙ ap (λ (i : ℕ). settled_console e (moved b i)) (mover-alike e a b same)

  reported-both : reported a (mover a) ≡ reported b (mover b)
  reported-both =
      sym (reported-alike a e (mover a) (mover-lt a) order)
      ∙ ap (λ (x : Console). reported x (mover a)) same
      ∙ reported-alike b e (mover a) (mover-lt a) own
      ∙ ap (reported b) (mover-alike e a b same)

  rendered-both : rendered a (mover a) ≡ rendered b (mover b)
  rendered-both =
      sym (rendered-alike a e (mover a) (mover-lt a) order)
      ∙ ap (λ (x : Console). rendered x (mover a)) same
      ∙ rendered-alike b e (mover a) (mover-lt a) own
      ∙ ap (rendered b) (mover-alike e a b same)

runs_alike : (e : ℕ) (m w : Console) → settled_console e m ≡ settled_console e w → (n : ℕ) → AllFrom e m n → Alike e n m w
unfolding ran journal media_after
runs_alike e m w same zero from = record { console = same; entered = refl; shown = refl }
runs_alike e m w same (suc n) from =
    let before : Alike e n m w = runs_alike e m w same n (λ k less. from k (omega arith)) in
    let order : e ≤ (key_in (ran m n) (mover (ran m n))).cycle = from n (omega arith) in
    record {
      console = moved-alike e (ran m n) (ran w n) before.console order;
      entered = ap₂ (λ (x y : List Entry). x ++ y) before.entered (reported-both e (ran m n) (ran w n) before.console order);
      shown = ap₂ joined before.shown (rendered-both e (ran m n) (ran w n) before.console order);
    }

-- the run of the other
pub settled-goes-on : (e end : ℕ) (m w z : Console) (entries : List Entry) (output : Media) → settled_console e m ≡ settled_console e w → e ≤ end
    → (run : IsRunTo m end z entries output) → AllFrom e m run.moves → GoesOn end w z entries output
settled-goes-on e end m w z entries output same order run from =
    let all : Alike e run.moves m w = runs_alike e m w same run.moves from in
    let last : settled_console e z ≡ settled_console e (ran w run.moves) = ap (settled_console e) run.console ∙ all.console in
    record {
      after = ran w run.moves;
      run = record {
        moves = run.moves;
        below = λ k less.
            let stage : Alike e k m w = runs_alike e m w same k (λ j lower. from j (omega arith)) in
            subst (λ (x : Key). x.cycle < end) (next-alike e (ran m k) (ran w k) stage.console) (run.below k less);
        quiet = λ i below. subst (λ (x : Key). end ≤ x.cycle) (key-alike e z (ran w run.moves) last i) (run.quiet i below);
        console = refl;
        entered = run.entered ∙ all.entered;
        rendered_to = run.rendered_to ∙ all.shown;
      };
      same = sym (later-alike e end z (ran w run.moves) order last);
    }
