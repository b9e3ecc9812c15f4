use Rattle.std.proofs.Common.{◌∙◌, [], ◌∷◌, sym}
use Rattle.std.specs.Option.{option_copied}
use Rattle.md_args.proofs.Apart.{apart}
use Rattle.md_args.proofs.names.have_names.Goals as goal

pub returns-clause-save_and_frames : goal.returns-clause-save_and_frames
returns-clause-save_and_frames c are =
    let values = c.args.values.now in
    apart (option_copied values.rom ∷ option_copied values.recording ∷ option_copied values.load ∷ []) [] (option_copied values.sound ∷ option_copied values.journal ∷ []) (option_copied values.save) (option_copied values.frames) (sym c.are_names.ensures ∙ are)

pub returns-clause-save_and_sound : goal.returns-clause-save_and_sound
returns-clause-save_and_sound c are =
    let values = c.args.values.now in
    apart (option_copied values.rom ∷ option_copied values.recording ∷ option_copied values.load ∷ []) (option_copied values.frames ∷ []) (option_copied values.journal ∷ []) (option_copied values.save) (option_copied values.sound) (sym c.are_names.ensures ∙ are)

pub returns-clause-save_and_journal : goal.returns-clause-save_and_journal
returns-clause-save_and_journal c are =
    let values = c.args.values.now in
    apart (option_copied values.rom ∷ option_copied values.recording ∷ option_copied values.load ∷ []) (option_copied values.frames ∷ option_copied values.sound ∷ []) [] (option_copied values.save) (option_copied values.journal) (sym c.are_names.ensures ∙ are)

pub returns-clause-frames_and_sound : goal.returns-clause-frames_and_sound
returns-clause-frames_and_sound c are =
    let values = c.args.values.now in
    apart (option_copied values.rom ∷ option_copied values.recording ∷ option_copied values.load ∷ option_copied values.save ∷ []) [] (option_copied values.journal ∷ []) (option_copied values.frames) (option_copied values.sound) (sym c.are_names.ensures ∙ are)

pub returns-clause-frames_and_journal : goal.returns-clause-frames_and_journal
returns-clause-frames_and_journal c are =
    let values = c.args.values.now in
    apart (option_copied values.rom ∷ option_copied values.recording ∷ option_copied values.load ∷ option_copied values.save ∷ []) (option_copied values.sound ∷ []) [] (option_copied values.frames) (option_copied values.journal) (sym c.are_names.ensures ∙ are)

pub returns-clause-sound_and_journal : goal.returns-clause-sound_and_journal
returns-clause-sound_and_journal c are =
    let values = c.args.values.now in
    apart (option_copied values.rom ∷ option_copied values.recording ∷ option_copied values.load ∷ option_copied values.save ∷ option_copied values.frames ∷ []) [] [] (option_copied values.sound) (option_copied values.journal) (sym c.are_names.ensures ∙ are)
