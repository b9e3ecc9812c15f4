-- The tokens of a text are that of the word at the start and those after it.
use Rattle.std.proofs.Common.{◌≡◌, ℕ, ◌+◌, ◌-◌, Bool, true, false, List, [], ◌∷◌, ◌++◌, length, take, drop, append_assoc, append-nil, refl, ap, ◌∙◌, sym, arith}
use Rattle.std.proofs.lemmas.Grind.{common_steps}
use Rattle.md_asm_text.specs.Tokens.{Token, closed, is_worded, opened, split, Word}
use Rattle.md_asm_text.specs.Runs.{marks, run}

one_more : (c : ℕ) (cs : List ℕ) (k : ℕ) → take (1 + k) (c ∷ cs) ≡ c ∷ take k cs
one_more c cs k = grind (arith, common_steps)

one_less : (c : ℕ) (cs : List ℕ) (k : ℕ) → drop (1 + k) (c ∷ cs) ≡ drop k cs
one_less c cs k = grind (arith, common_steps)

split_by : (b : Bool) (word : List ℕ) (c : ℕ) (cs : List ℕ) → is_worded c ≡ b
    → ((w : List ℕ) → split w cs ≡ closed (w ++ take (run cs) cs) ++ marks (drop (run cs) cs))
    → split word (c ∷ cs) ≡ closed (word ++ take (run (c ∷ cs)) (c ∷ cs)) ++ marks (drop (run (c ∷ cs)) (c ∷ cs))
unfolding split
split_by true word c cs is more =
    rw (is, one_more c cs (run cs), one_less c cs (run cs))
    (more (word ++ c ∷ []) ∙ ap (λ (l : List ℕ). closed l ++ marks (drop (run cs) cs)) (append_assoc word (c ∷ []) (take (run cs) cs)))
split_by false word c cs is more = rw is (ap (λ (l : List ℕ). closed l ++ marks (c ∷ cs)) (sym (append-nil word)))

split_run : (word text : List ℕ) → split word text ≡ closed (word ++ take (run text) text) ++ marks (drop (run text) text)
unfolding split
split_run word [] = ap closed (sym (append-nil word)) ∙ sym (append-nil (closed (word ++ [])))
split_run word (c ∷ cs) = split_by (is_worded c) word c cs refl (λ w. split_run w cs)

pub split_front : (text : List ℕ) → split [] text ≡ closed (take (run text) text) ++ marks (drop (run text) text)
split_front text = split_run [] text

opened_by : (b : Bool) (word : List ℕ) (c : ℕ) (cs : List ℕ) → is_worded c ≡ b
    → ((w : List ℕ) → opened w cs ≡ Word (w ++ take (run cs) cs) ∷ marks (drop (run cs) cs))
    → opened word (c ∷ cs) ≡ Word (word ++ take (run (c ∷ cs)) (c ∷ cs)) ∷ marks (drop (run (c ∷ cs)) (c ∷ cs))
unfolding opened
opened_by true word c cs is more =
    rw (is, one_more c cs (run cs), one_less c cs (run cs))
    (more (word ++ c ∷ []) ∙ ap (λ (l : List ℕ). Word l ∷ marks (drop (run cs) cs)) (append_assoc word (c ∷ []) (take (run cs) cs)))
opened_by false word c cs is more = rw is (ap (λ (l : List ℕ). Word l ∷ marks (c ∷ cs)) (sym (append-nil word)))

opened_run : (word text : List ℕ) → opened word text ≡ Word (word ++ take (run text) text) ∷ marks (drop (run text) text)
unfolding opened
opened_run word [] = ap (λ (l : List ℕ). Word l ∷ []) (sym (append-nil word))
opened_run word (c ∷ cs) = opened_by (is_worded c) word c cs refl (λ w. opened_run w cs)

pub opened_front : (text : List ℕ) → opened [] text ≡ Word (take (run text) text) ∷ marks (drop (run text) text)
opened_front text = opened_run [] text

whole_rest : (k : ℕ) (text : List ℕ) → take (length text - k) (drop k text) ≡ drop k text
whole_rest k text = grind (arith, common_steps)

pub front_joined : (old new : List Token) (text : List ℕ) (count : ℕ) → count ≡ run text → new ≡ old ++ closed (take count text)
    → new ++ marks (take (length text - count) (drop count text)) ≡ old ++ split [] text
front_joined old new text count e put =
    rw (whole_rest count text, put, e)
    (append_assoc old (closed (take (run text) text)) (marks (drop (run text) text)) ∙ ap (λ (l : List Token). old ++ l) (sym (split_front text)))
