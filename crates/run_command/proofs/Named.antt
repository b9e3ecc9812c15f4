-- The names of a run's outputs differ.
use Rattle.std.proofs.Common.{◌≡◌, Bool, true, false, List, ℕ, Option, Some, None, refl, sym}
use Rattle.std.specs.Prelude.{not}
use Rattle.std.specs.Str.{bytes_eq}
use Rattle.std.proofs.lemmas.Slice.Eq.{bytes_eq-Decides}
use Rattle.md_args.specs.Shown.{shown_run}
use Rattle.md_args.specs.Commands.{differ}
use Rattle.md_args.specs.declared.run_words.RunWords.{RunWords}
use Rattle.run_command.proofs.Writes.{Apart}

-- so they do in the other order
not_both : (p q : Bool) → (q ≡ true → p ≡ true) → not p ≡ true → not q ≡ true
not_both p true same differs = rw (same refl) at differs
not_both p false same differs = refl

differ_sym : (a b : Option (List ℕ)) → differ a b ≡ true → differ b a ≡ true
differ_sym None None apart = refl
differ_sym None (Some b) apart = refl
differ_sym (Some a) None apart = refl
differ_sym (Some a) (Some b) apart =
    not_both (bytes_eq a b) (bytes_eq b a) (λ same. (bytes_eq-Decides a b).1 (sym ((bytes_eq-Decides b a).0 same))) apart

pub outputs_apart : (run : RunWords) → Apart (shown_run run)
outputs_apart run = record {
  frames_sound = run.frames_and_sound_differ;
  frames_journal = run.frames_and_journal_differ;
  sound_journal = run.sound_and_journal_differ;
  frames_save = differ_sym (shown_run run).save (shown_run run).frames run.save_and_frames_differ;
  sound_save = differ_sym (shown_run run).save (shown_run run).sound run.save_and_sound_differ;
  journal_save = differ_sym (shown_run run).save (shown_run run).journal run.save_and_journal_differ;
}
