use Rattle.std.proofs.Common.{◌≡◌, ◌∙◌, ℕ, List, ◌++◌, ◌-◌, append_assoc, ap, subst, take, drop}
use Rattle.std.proofs.Math.Seq.{take-length}
use Rattle.std.proofs.lemmas.List.{length-drop}
use Rattle.std.specs.Prelude.{replicate}
use Rattle.save_state.specs.States.{mark}
use Rattle.save_state.specs.Versions.{from_second}
use Rattle.save_state.proofs.version.from_second.Goals as goal

pub returns : goal.returns
unfolding from_second
returns c =
    let bytes = c.args.bytes.now in
    let one : c.extend_from_slice.new.self.items ≡ c.in_ok-newer.newer.items ++ mark = c.in_ok-extend_from_slice.ensures.items in
    let two : c.extend_from_slice-2.new.self.items ≡ c.extend_from_slice.new.self.items ++ take 393594 (drop 8 bytes) = c.in_ok-extend_from_slice-2.ensures.items in
    let three : c.extend_from_slice-3.new.self.items ≡ c.extend_from_slice-2.new.self.items ++ replicate 18 0 = c.in_ok-extend_from_slice-3.ensures.items in
    let rest : List ℕ = drop 8 bytes in
    let all : take 393594 rest ≡ rest = subst (λ (n : ℕ). take n rest ≡ rest) (length-drop 8 bytes ∙ ap (λ (n : ℕ). n - 8) c.requires) (take-length rest) in
    three ∙ ap (λ (l : List ℕ). l ++ replicate 18 0) (two ∙ ap (λ (l : List ℕ). c.extend_from_slice.new.self.items ++ l) all
    ∙ ap (λ (l : List ℕ). l ++ rest) (one ∙ ap (λ (l : List ℕ). l ++ mark) c.in_ok-newer.ensures.items))
    ∙ append_assoc mark rest (replicate 18 0)
