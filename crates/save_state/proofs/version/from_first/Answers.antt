use Rattle.std.proofs.Common.{◌≡◌, ◌∙◌, ℕ, List, [], ◌∷◌, ◌++◌, ◌-◌, append_assoc, ap, subst, take, drop}
use Rattle.std.proofs.Math.Seq.{take-length}
use Rattle.std.proofs.lemmas.List.{length-drop}
use Rattle.std.specs.Prelude.{replicate}
use Rattle.save_state.specs.States.{mark}
use Rattle.save_state.specs.Versions.{from_first}
use Rattle.save_state.proofs.version.from_first.Goals as goal

-- nine lists, one after the other
in_order : (a b c d e f g h k : List ℕ) → ((((((((([] ++ a) ++ b) ++ c) ++ d) ++ e) ++ f) ++ g) ++ h) ++ k) ≡ a ++ (b ++ (c ++ (d ++ (e ++ (f ++ (g ++ (h ++ k)))))))
in_order a b c d e f g h k =
    append_assoc (((((((a ++ b) ++ c) ++ d) ++ e) ++ f) ++ g)) h k
    ∙ append_assoc ((((((a ++ b) ++ c) ++ d) ++ e) ++ f)) g (h ++ k)
    ∙ append_assoc (((((a ++ b) ++ c) ++ d) ++ e)) f (g ++ (h ++ k))
    ∙ append_assoc ((((a ++ b) ++ c) ++ d)) e (f ++ (g ++ (h ++ k)))
    ∙ append_assoc (((a ++ b) ++ c)) d (e ++ (f ++ (g ++ (h ++ k))))
    ∙ append_assoc ((a ++ b)) c (d ++ (e ++ (f ++ (g ++ (h ++ k)))))
    ∙ append_assoc a b (c ++ (d ++ (e ++ (f ++ (g ++ (h ++ k))))))

pub returns : goal.returns
unfolding from_first
returns c =
    let bytes = c.args.bytes.now in
    let one : c.extend_from_slice.new.self.items ≡ c.in_ok-newer.newer.items ++ mark = c.in_ok-extend_from_slice.ensures.items in
    let two : c.extend_from_slice-2.new.self.items ≡ c.extend_from_slice.new.self.items ++ take 40 (drop 8 bytes) = c.in_ok-extend_from_slice-2.ensures.items in
    let three : c.extend_from_slice-3.new.self.items ≡ c.extend_from_slice-2.new.self.items ++ (0 ∷ []) = c.in_ok-extend_from_slice-3.ensures.items in
    let four : c.extend_from_slice-4.new.self.items ≡ c.extend_from_slice-3.new.self.items ++ take 139783 (drop 48 bytes) = c.in_ok-extend_from_slice-4.ensures.items in
    let five : c.extend_from_slice-5.new.self.items ≡ c.extend_from_slice-4.new.self.items ++ (0 ∷ []) = c.in_ok-extend_from_slice-5.ensures.items in
    let six : c.extend_from_slice-6.new.self.items ≡ c.extend_from_slice-5.new.self.items ++ take 215050 (drop 139831 bytes) = c.in_ok-extend_from_slice-6.ensures.items in
    let seven : c.extend_from_slice-7.new.self.items ≡ c.extend_from_slice-6.new.self.items ++ replicate 15360 0 = c.in_ok-extend_from_slice-7.ensures.items in
    let eight : c.extend_from_slice-8.new.self.items ≡ c.extend_from_slice-7.new.self.items ++ take 23359 (drop 354881 bytes) = c.in_ok-extend_from_slice-8.ensures.items in
    let nine : c.extend_from_slice-9.new.self.items ≡ c.extend_from_slice-8.new.self.items ++ replicate 18 0 = c.in_ok-extend_from_slice-9.ensures.items in
    let rest : List ℕ = drop 354881 bytes in
    let all : take 23359 rest ≡ rest = subst (λ (n : ℕ). take n rest ≡ rest) (length-drop 354881 bytes ∙ ap (λ (n : ℕ). n - 354881) c.requires) (take-length rest) in
    nine ∙ ap (λ (l : List ℕ). l ++ replicate 18 0) (eight ∙ ap (λ (l : List ℕ). c.extend_from_slice-7.new.self.items ++ l) all
    ∙ ap (λ (l : List ℕ). l ++ drop 354881 bytes) (seven ∙ ap (λ (l : List ℕ). l ++ replicate 15360 0) (six ∙ ap (λ (l : List ℕ). l ++ take 215050 (drop 139831 bytes)) (five ∙ ap (λ (l : List ℕ). l ++ (0 ∷ [])) (four ∙ ap (λ (l : List ℕ). l ++ take 139783 (drop 48 bytes)) (three ∙ ap (λ (l : List ℕ). l ++ (0 ∷ [])) (two ∙ ap (λ (l : List ℕ). l ++ take 40 (drop 8 bytes)) (one ∙ ap (λ (l : List ℕ). l ++ mark) c.in_ok-newer.ensures.items))))))))
    ∙ in_order mark (take 40 (drop 8 bytes)) (0 ∷ []) (take 139783 (drop 48 bytes)) (0 ∷ []) (take 215050 (drop 139831 bytes)) (replicate 15360 0) (drop 354881 bytes) (replicate 18 0)
