-- Two runs, the one after the other, are one.
use Rattle.std.proofs.Common.{◌≡◌, ℕ, zero, suc, ◌+◌, ◌-◌, ◌<◌, ◌≤◌, ◌⊎◌, inl, inr, List, ◌++◌, sym, ap, ◌∙◌, subst, append-nil, append_assoc, arith, add-suc, add-zero}
use Rattle.std.proofs.lemmas.Bool.{cases_lt}
use Rattle.md_word.specs.declared.event.Entry.{Entry}
use Rattle.md_chips.specs.Console.{Console, IsRunTo, rendered, journal, key_in, moved, mover, ran, media_after, reported}
use Rattle.md_chips.specs.Media.{Media, joined, no_media}

pub ran-add : (m : Console) (a b : ℕ) → ran m (a + b) ≡ ran (ran m a) b
unfolding ran
ran-add m a zero = ap (ran m) (add-zero a)
ran-add m a (suc b) = ap (ran m) (add-suc a b) ∙ ap (λ z. moved z (mover z)) (ran-add m a b)

pub journal-add : (m : Console) (a b : ℕ) → journal m (a + b) ≡ journal m a ++ journal (ran m a) b
unfolding journal
journal-add m a zero = ap (journal m) (add-zero a) ∙ sym (append-nil (journal m a))
journal-add m a (suc b) =
    ap (journal m) (add-suc a b)
    ∙ ap (λ l. l ++ reported (ran m (a + b)) (mover (ran m (a + b)))) (journal-add m a b)
    ∙ ap (λ z. (journal m a ++ journal (ran m a) b) ++ reported z (mover z)) (ran-add m a b)
    ∙ append_assoc (journal m a) (journal (ran m a) b) (reported (ran (ran m a) b) (mover (ran (ran m a) b)))

-- consecutive samples
joined-none : (s : Media) → joined s no_media ≡ s
joined-none s = λ i. record { frames = append-nil s.frames i; sides = append-nil s.sides i; levels = append-nil s.levels i }

joined-assoc : (a b c : Media) → joined (joined a b) c ≡ joined a (joined b c)
joined-assoc a b c = λ i. record {
  frames = append_assoc a.frames b.frames c.frames i;
  sides = append_assoc a.sides b.sides c.sides i;
  levels = append_assoc a.levels b.levels c.levels i;
}

pub media-add : (m : Console) (a b : ℕ) → media_after m (a + b) ≡ joined (media_after m a) (media_after (ran m a) b)
unfolding media_after
media-add m a zero = ap (media_after m) (add-zero a) ∙ sym (joined-none (media_after m a))
media-add m a (suc b) =
    ap (media_after m) (add-suc a b)
    ∙ ap (λ l. joined l (rendered (ran m (a + b)) (mover (ran m (a + b))))) (media-add m a b)
    ∙ ap (λ z. joined (joined (media_after m a) (media_after (ran m a) b)) (rendered z (mover z))) (ran-add m a b)
    ∙ joined-assoc (media_after m a) (media_after (ran m a) b) (rendered (ran (ran m a) b) (mover (ran (ran m a) b)))

-- a move of the whole is one of the first run, or one of the second
pub split : (k a b : ℕ) → k < a + b → (k < a) ⊎ ((j : ℕ) × (j < b) × (k ≡ a + j))
split k a b below = elim (cases_lt k a) [
  | inl is ↦ inl is
  | inr late ↦ inr (k - a, omega arith, omega arith)
]

pub run-joined : (m w z : Console) (s t : ℕ) (entries later_entries : List Entry) (sound later_sound : Media) → s ≤ t
    → IsRunTo m s w entries sound → IsRunTo w t z later_entries later_sound
    → IsRunTo m t z (entries ++ later_entries) (joined sound later_sound)
run-joined m w z s t entries later_entries sound later_sound within first second =
    let later : (j : ℕ) → j < second.moves → (key_in (ran m (first.moves + j)) (mover (ran m (first.moves + j)))).cycle < t = λ j below.
    subst (λ (x : Console). (key_in x (mover x)).cycle < t) (ap (λ (x : Console). ran x j) first.console ∙ sym (ran-add m first.moves j)) (second.below j below) in
    record {
      moves = first.moves + second.moves;
      below = λ k below. elim (split k first.moves second.moves below) [
        | inl cases_lt ↦ omega (arith, first.below k cases_lt)
        | inr late ↦ rw late.2 (later late.0 late.1)
      ];
      quiet = second.quiet;
      console = second.console ∙ ap (λ (x : Console). ran x second.moves) first.console ∙ sym (ran-add m first.moves second.moves);
      entered =
          ap (λ l. l ++ later_entries) first.entered
          ∙ ap (λ l. journal m first.moves ++ l) (second.entered ∙ ap (λ (x : Console). journal x second.moves) first.console)
          ∙ sym (journal-add m first.moves second.moves);
      rendered_to =
          ap (λ l. joined l later_sound) first.rendered_to
          ∙ ap (λ l. joined (media_after m first.moves) l) (second.rendered_to ∙ ap (λ (x : Console). media_after x second.moves) first.console)
          ∙ sym (media-add m first.moves second.moves);
    }
