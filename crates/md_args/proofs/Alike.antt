-- Words of a run that mean the same, or the same but for its workers.
use Rattle.std.proofs.Common.{◌≡◌, ◌∙◌, refl, sym, ap, ap₂, ℕ, Bool, true, false, cond, not, ◌&&◌, ◌||◌, ◌⊎◌, inl, inr, ⊎_elim, codes, List, [], ◌∷◌, ◌++◌, find, Option, Some, None, IsSome}
use Rattle.std.specs.List.{list_any}
use Rattle.std.specs.Option.{option_and_then, option_map}
use Rattle.std.proofs.lemmas.Bool.{and_parts, or_right, true≢false, not-true}
use Rattle.std.proofs.lemmas.Slice.Eq.{bytes_eq-Decides}
use Rattle.clap.specs.Walk.{Text}
use Rattle.md_args.specs.Given.{Argument, Place, are_single, between, ended, given, has_name, is_marked, value_in, value_of, with_value}
use Rattle.md_args.specs.Spelled.{apart, joined, words_of}
use Rattle.text_lines.specs.Digits.{decimal_of}
use Rattle.md_args.specs.Commands.{Values, are_names, but_workers, is_one_region, names_of, run_by, run_flags, run_from, run_given, run_of, run_of_arguments, run_options, values_by, workers_of}
use Rattle.md_args.specs.Words.{Run}
use Rattle.md_args.proofs.Gives.{given_open, given_option, given_value}
use Rattle.md_args.proofs.Rows.{stands}
use Rattle.md_args.proofs.Spellings.{left_of, readable_among, run_readable}
use Rattle.md_args.proofs.Tails.{Alike, Stays, alike_meant, alike_stays, following, meant, refused_here}

-- ---- an option and its value in two words, and in one

written_here : (name value : Text) (after : List Text) → list_any (has_name name) run_options ≡ true → is_marked value ≡ false → (free : Bool) (place : Place)
    → Alike (given (left_of free) run_options run_flags place (words_of (apart name value) ++ after)) (given (left_of free) run_options run_flags place (words_of (joined name value) ++ after))
written_here name value after listed unmarked true ended =
    inr (
      refused_here (codes "--" ++ name) (given [] run_options run_flags ended (value ∷ after)) refl,
      refused_here (codes "--" ++ name ++ codes "=" ++ value) (given [] run_options run_flags ended after) refl,
    )
written_here name value after listed unmarked false ended = inl refl
written_here name value after listed unmarked free (value_of other) = inl refl
written_here name value after listed unmarked free between =
    let known = readable_among run_options name run_readable listed in
    inl
    (sym (given_open run_options run_flags (left_of free) (codes "--" ++ name) (value ∷ after) name known.apart_no_end refl known.apart_word listed)
    ∙ sym (given_value run_options run_flags (left_of free) value after name unmarked)
    ∙ given_option run_options run_flags (left_of free) (codes "--" ++ name ++ codes "=" ++ value) after name value (known.joined_no_end value) refl (known.joined_word value) listed)

pub written_alike : (before after : List Text) (name value : Text) → list_any (has_name name) run_options ≡ true → is_marked value ≡ false
    → run_of (before ++ (words_of (apart name value) ++ after)) ≡ run_of (before ++ (words_of (joined name value) ++ after))
written_alike before after name value listed unmarked =
    alike_meant _ _
    (following run_options run_flags Alike alike_stays (words_of (apart name value) ++ after) (words_of (joined name value) ++ after) (written_here name value after listed unmarked) before true between)

-- ---- another value of one argument

module _ (name value other : Text) (after : List Argument) where
  stands_same : (before : List Argument) (third : Text) → stands third (before ++ (name, value) ∷ after) ≡ stands third (before ++ (name, other) ∷ after)
  stands_same [] third = refl
  stands_same (first ∷ before) third = ap (λ b. has_name third first.0 || b) (stands_same before third)

  single_same : (before : List Argument) → are_single (before ++ (name, value) ∷ after) ≡ are_single (before ++ (name, other) ∷ after)
  single_same [] = refl
  single_same (first ∷ before) = ap₂ (λ b d. not b && d) (stands_same before first.0) (single_same before)

  value_same : (before : List Argument) (third : Text) → has_name third name ≡ false → value_in (before ++ (name, value) ∷ after) third ≡ value_in (before ++ (name, other) ∷ after) third
  value_same [] third differs = rw (differs) refl
  value_same (first ∷ before) third differs = go (has_name third first.0) (value_same before third differs)
    where
      go : (b : Bool) → value_in (before ++ (name, value) ∷ after) third ≡ value_in (before ++ (name, other) ∷ after) third
          → option_map (λ (argument : Argument). argument.1) (cond b (Some first) (find (λ argument. has_name third argument.0) (before ++ (name, value) ∷ after)))
          ≡ option_map (λ (argument : Argument). argument.1) (cond b (Some first) (find (λ argument. has_name third argument.0) (before ++ (name, other) ∷ after)))
      go true later = refl
      go false later = later

own_name : (name : Text) → has_name name name ≡ true
own_name name = (bytes_eq-Decides name name).1 refl

stands_own : (name value : Text) (before after : List Argument) → stands name (before ++ (name, value) ∷ after) ≡ true
stands_own name value [] after = rw (own_name name) refl
stands_own name value (first ∷ before) after = or_right _ _ (stands_own name value before after)

value_own : (name value : Text) (before after : List Argument) → are_single (before ++ (name, value) ∷ after) ≡ true → value_in (before ++ (name, value) ∷ after) name ≡ Some value
value_own name value [] after single = rw (own_name name) refl
value_own name value (first ∷ before) after single = go (has_name name first.0) refl (value_own name value before after (and_parts _ _ single).1)
  where
    go : (b : Bool) → has_name name first.0 ≡ b → value_in (before ++ (name, value) ∷ after) name ≡ Some value
        → option_map (λ (argument : Argument). argument.1) (cond b (Some first) (find (λ argument. has_name name argument.0) (before ++ (name, value) ∷ after))) ≡ Some value
    go true is later =
        let same : first.0 ≡ name = (bytes_eq-Decides first.0 name).0 is in
        let twice : stands first.0 (before ++ (name, value) ∷ after) ≡ true = rw (same) (stands_own name value before after) in
        absurd (true≢false (sym twice ∙ not-true _ (and_parts _ _ single).0))
    go false is later = later

-- ---- other workers

abbrev workers : Text
workers = codes "workers"

other_workers : (values : Values) (count other : Text) → IsSome (workers_of (Some count)) → IsSome (workers_of (Some other))
    → option_map but_workers (run_given (record values { workers = Some count })) ≡ option_map but_workers (run_given (record values { workers = Some other }))
other_workers values count other fits other_fits =
    by_names (are_names (names_of values) && is_one_region values) _ _ (by_values values.rom (option_and_then decimal_of values.cycles) (workers_of (Some count)) (workers_of (Some other)) fits other_fits)
  where
    by_names : (b : Bool) (first second : Option Run) → option_map but_workers first ≡ option_map but_workers second
        → option_map but_workers (cond b first None) ≡ option_map but_workers (cond b second None)
    by_names true first second same = same
    by_names false first second same = refl

    by_values : (name : Option Text) (end n m : Option ℕ) → IsSome n → IsSome m
        → option_map but_workers (run_from (record values { workers = Some count }) name end n) ≡ option_map but_workers (run_from (record values { workers = Some other }) name end m)
    by_values None end n m some others = refl
    by_values (Some name) None n m some others = refl
    by_values (Some name) (Some end) None m some others = absurd (true≢false (sym some))
    by_values (Some name) (Some end) (Some n) None some others = absurd (true≢false (sym others))
    by_values (Some name) (Some end) (Some n) (Some m) some others = refl

-- the values of arguments that differ in the number of workers alone
values_are : (count : Text) (before after : List Argument) → are_single (before ++ (workers, count) ∷ after) ≡ true → (other : Text)
    → values_by (value_in (before ++ (workers, other) ∷ after)) ≡ record (values_by (value_in (before ++ (workers, count) ∷ after))) { workers = Some other }
values_are count before after single other =
    let same : (third : Text) → has_name third workers ≡ false → value_in (before ++ (workers, other) ∷ after) third ≡ value_in (before ++ (workers, count) ∷ after) third =
    value_same workers other count after before in
    let own : value_in (before ++ (workers, other) ∷ after) workers ≡ Some other = value_own workers other before after (single_same workers other count after before ∙ single) in
    λ i.
    record {
      rom = same (codes "rom") refl i;
      cycles = same (codes "cycles") refl i;
      recording = same (codes "in") refl i;
      load = same (codes "load") refl i;
      save = same (codes "save") refl i;
      frames = same (codes "frames") refl i;
      sound = same (codes "sound") refl i;
      journal = same (codes "journal") refl i;
      workers = own i;
      pal = same (codes "pal") refl i;
    }

module _ (count other : Text) (fits : IsSome (workers_of (Some count))) (other_fits : IsSome (workers_of (Some other))) where
  meant_but : (before after : List Argument)
      → option_map but_workers (run_of_arguments (before ++ (workers, count) ∷ after)) ≡ option_map but_workers (run_of_arguments (before ++ (workers, other) ∷ after))
  meant_but before after = go (are_single (before ++ (workers, count) ∷ after)) refl (are_single (before ++ (workers, other) ∷ after)) (sym (single_same workers count other after before))
    where
      go : (b : Bool) → are_single (before ++ (workers, count) ∷ after) ≡ b → (d : Bool) → d ≡ are_single (before ++ (workers, count) ∷ after)
          → option_map but_workers (cond b (run_by (value_in (before ++ (workers, count) ∷ after))) None)
          ≡ option_map but_workers (cond d (run_by (value_in (before ++ (workers, other) ∷ after))) None)
      go true single true same =
          ap (λ values. option_map but_workers (run_given values)) (values_are count before after single count)
          ∙ other_workers (values_by (value_in (before ++ (workers, count) ∷ after))) count other fits other_fits
          ∙ ap (λ values. option_map but_workers (run_given values)) (sym (values_are count before after single other))
      go true single false same = absurd (true≢false (sym (same ∙ single)))
      go false single true same = absurd (true≢false (same ∙ single))
      go false single false same = refl

  -- the same arguments but for the number of workers
  record AreBut (first second : Option (List Argument)) : Type 0 where
    before : List Argument
    after : List Argument
    one : first ≡ Some (before ++ (workers, count) ∷ after)
    two : second ≡ Some (before ++ (workers, other) ∷ after)

  abbrev Nearly : Option (List Argument) → Option (List Argument) → Type 0
  Nearly first second = AreBut first second ⊎ Alike first second

  nearly_stays : Stays Nearly
  nearly_stays =
      record {
        none = inr (inl refl);
        more = λ name value first second nearly. ⊎_elim
            (λ (but : AreBut first second). inl
            (record {
              before = (name, value) ∷ but.before;
              after = but.after;
              one = ap (with_value name value) but.one;
              two = ap (with_value name value) but.two;
            }))
            (λ alike. inr (alike_stays.more name value first second alike)) nearly;
      }

  nearly_meant : (first second : Option (List Argument)) → Nearly first second → option_map but_workers (meant first) ≡ option_map but_workers (meant second)
  nearly_meant first second nearly =
      ⊎_elim
      (λ (but : AreBut first second). ap (λ given. option_map but_workers (meant given)) but.one ∙ meant_but but.before but.after
      ∙ ap (λ given. option_map but_workers (meant given)) (sym but.two))
      (λ alike. ap (option_map but_workers) (alike_meant first second alike)) nearly

  workers_here : (after : List Text) (free : Bool) (place : Place)
      → Nearly (given (left_of free) run_options run_flags place (words_of (joined workers count) ++ after)) (given (left_of free) run_options run_flags place (words_of (joined workers other) ++ after))
  workers_here after true ended =
      inr
      (inr (
        refused_here (codes "--" ++ workers ++ codes "=" ++ count) (given [] run_options run_flags ended after) refl,
        refused_here (codes "--" ++ workers ++ codes "=" ++ other) (given [] run_options run_flags ended after) refl,
      ))
  workers_here after false ended = inr (inl refl)
  workers_here after free (value_of name) = inr (inl refl)
  workers_here after free between = go (given (left_of free) run_options run_flags between after)
    where
      go : (following : Option (List Argument)) → Nearly (with_value workers count following) (with_value workers other following)
      go None = inr (inl refl)
      go (Some arguments) = inl (record { before = []; after = arguments; one = refl; two = refl })

  pub but_workers_alike : (before after : List Text)
      → option_map but_workers (run_of (before ++ (words_of (joined workers count) ++ after))) ≡ option_map but_workers (run_of (before ++ (words_of (joined workers other) ++ after)))
  but_workers_alike before after =
      nearly_meant _ _
      (following run_options run_flags Nearly nearly_stays (words_of (joined workers count) ++ after) (words_of (joined workers other) ++ after) (workers_here after) before true between)
