-- What `clap` finds in words is what they give, word for word.
use Rattle.std.proofs.Common.{◌≡◌, ◌∙◌, refl, ap, ℕ, ◌+◌, Bool, true, false, cond, codes, ⊎_elim, List, [], ◌∷◌, min, Option, Some, None}
use Rattle.std.specs.Str.{IsUtf8, bytes_eq}
use Rattle.clap.specs.Faults.{settle_fault, walk_fault}
use Rattle.clap.specs.Lexer.{long_of, usize_max}
use Rattle.clap.specs.Walk.{Row, Rule, Text, Waiting, arg_by_id, arg_by_index, arg_by_short, has_row, idle, option, settled_rows}
use Rattle.md_args.specs.Given.{Argument, between, ended, given, is_marked, value_of, with_value}
use Rattle.md_args.proofs.Gives.{given_end, given_flag, given_flag_value, given_no_value, given_open, given_option, given_short, given_stray, given_unknown, given_value, given_word}
use Rattle.md_args.proofs.Lookups.{AreFound, IsFlag, IsKnown, IsUnknown, single, word_rule}
use Rattle.md_args.proofs.Looks.{IsShort, plain_word, short_word}
use Rattle.md_args.proofs.Turns as turns
use Rattle.md_args.proofs.Turns.{added, added_once, at, complete, fine_none, held, if_fine, outcome, settle_open, settle_value}

-- the words are texts
abbrev pub AreTexts : List Text → Type 0
AreTexts [] = Unit {0}
AreTexts (word ∷ words) = IsUtf8 word × AreTexts words

module _ (rules : List Rule) where
  -- the rows after these arguments
  abbrev pub put : List Row → List Argument → Option (List Row)
  put rows [] = complete rules rows
  put rows (argument ∷ arguments) = added_once (λ next. put next arguments) argument.0 argument.1 rows

  abbrev pub taken : Option (List Argument) → List Row → Option (List Row)
  taken None rows = None
  taken (Some arguments) rows = put rows arguments

  taken_one : (name value : Text) (arguments : Option (List Argument)) (rows : List Row)
      → added_once (taken arguments) name value rows ≡ taken (with_value name value arguments) rows
  taken_one name value (Some arguments) rows = refl
  taken_one name value None rows = go (has_row name rows)
    where
      go : (has : Bool) → ◌≡◌ {A = Option (List Row)} (cond has None None) None
      go true = refl
      go false = refl

  -- these positional words are left
  abbrev pub AreLeft : ℕ → List Text → Type 0
  AreLeft position [] = arg_by_index rules position ≡ None
  AreLeft position (name ∷ names) =
      (arg_by_index rules position ≡ Some (word_rule name position)) × (arg_by_id rules name ≡ Some (word_rule name position))
      × AreLeft (min (position + 1) usize_max) names

module _ (command : Text) (rules : List Rule) (options flags : List Text) (found : AreFound rules options flags) (no_short : (letter : ℕ) → arg_by_short rules letter ≡ None) where
  -- what the rest of the words gives is added to the rows, once what waits is used
  abbrev From : Waiting → ℕ → Bool → List Row → Option (Text × List Text) → List Text → Option (List Argument) → Type 0
  From waiting position is_trailing rows pending words arguments =
      outcome command rules (at waiting position is_trailing rows pending) words
      ≡ if_fine (settle_fault rules false (held rows pending)) (taken rules arguments (settled_rows rules pending rows))

  abbrev Ends : List Text → Type 0
  Ends words =
      (waiting : Waiting) (position : ℕ) (left : List Text) → AreLeft rules position left → (rows : List Row) (pending : Option (Text × List Text))
      → From waiting position true rows pending words (given left options flags ended words)

  abbrev Starts : List Text → Type 0
  Starts words =
      (position : ℕ) (left : List Text) → AreLeft rules position left → (rows : List Row) (pending : Option (Text × List Text))
      → From idle position false rows pending words (given left options flags between words)

  abbrev Values : List Text → Type 0
  Values words =
      (name : Text) → IsKnown rules options name → (position : ℕ) (left : List Text) → AreLeft rules position left → (rows : List Row)
      → outcome command rules (at (option name) position false rows (Some (name, []))) words ≡ taken rules (given left options flags (value_of name) words) rows

  -- a value that was read is one more argument
  one_more : (name value : Text) (long : Option Text) (place : Option ℕ) (required : Bool) (waiting : Waiting) (position : ℕ) (is_trailing : Bool) (rows : List Row) (words : List Text)
      (arguments : Option (List Argument)) → arg_by_id rules name ≡ Some (single name long place required)
      → From waiting position is_trailing rows (Some (name, value ∷ [])) words arguments
      → outcome command rules (at waiting position is_trailing rows (Some (name, value ∷ []))) words ≡ taken rules (with_value name value arguments) rows
  one_more name value long place required waiting position is_trailing rows words arguments own from =
      from ∙ settle_value command rules rows name value long place required (taken rules arguments) own ∙ taken_one rules name value arguments rows

  ends : (words : List Text) → Ends words
  unfolding walk_fault
  ends [] waiting position left are rows pending = refl
  ends (word ∷ words) waiting position [] none rows pending =
      turns.end_at_stray command rules waiting position rows pending word words none ∙ fine_none (settle_fault rules false (held rows pending))
  ends (word ∷ words) waiting position (name ∷ left) are rows pending =
      turns.end_at_word command rules waiting position position rows pending word name words are.0
      ∙ ap (if_fine (settle_fault rules false (held rows pending)))
      (one_more name word None (Some position) true idle (min (position + 1) usize_max) true (settled_rows rules pending rows) words (given left options flags ended words) are.1
      (ends words idle (min (position + 1) usize_max) left are.2 (settled_rows rules pending rows) (Some (name, word ∷ []))))

  -- what the rest gives, once the word is known
  as_given : (rows : List Row) (pending : Option (Text × List Text)) (first next : Option (List Argument)) → first ≡ next
      → if_fine (settle_fault rules false (held rows pending)) (taken rules first (settled_rows rules pending rows))
      ≡ if_fine (settle_fault rules false (held rows pending)) (taken rules next (settled_rows rules pending rows))
  as_given rows pending first next is = ap (λ arguments. if_fine (settle_fault rules false (held rows pending)) (taken rules arguments (settled_rows rules pending rows))) is

  start_known : (word : Text) (words : List Text) (name : Text) (value : Option Text) → bytes_eq word (codes "--") ≡ false → is_marked word ≡ true → long_of word ≡ Some (name, value)
      → IsKnown rules options name → Starts words → Values words → Starts (word ∷ words)
  start_known word words name None no_end marked long known starts values position left are rows pending =
      turns.at_open_option command rules position rows pending word name known.required words no_end long known.long
      ∙ ap (if_fine (settle_fault rules false (held rows pending))) (values name known position left are (settled_rows rules pending rows))
      ∙ as_given rows pending _ _ (given_open options flags left word words name no_end marked long known.listed)
  start_known word words name (Some value) no_end marked long known starts values position left are rows pending =
      let before = settled_rows rules pending rows in
      turns.at_option command rules position rows pending word name value known.required words no_end long known.long
      ∙ ap (λ later. if_fine (settle_fault rules false (held rows pending)) (cond (has_row name before) None later)) (starts position left are (added name value before) None)
      ∙ ap (if_fine (settle_fault rules false (held rows pending))) (taken_one rules name value (given left options flags between words) before)
      ∙ as_given rows pending _ _ (given_option options flags left word words name value no_end marked long known.listed)

  start_flag : (word : Text) (words : List Text) (name : Text) (value : Option Text) → bytes_eq word (codes "--") ≡ false → is_marked word ≡ true → long_of word ≡ Some (name, value)
      → IsFlag rules options flags name → Starts words → Starts (word ∷ words)
  start_flag word words name None no_end marked long flag starts position left are rows pending =
      let before = settled_rows rules pending rows in
      turns.at_flag command rules position rows pending word name words no_end long flag.long
      ∙ ap (if_fine (settle_fault rules false (held rows pending)))
      (ap (λ next. added_once next name [] before) (λ i next. starts position left are next None i) ∙ taken_one rules name [] (given left options flags between words) before)
      ∙ as_given rows pending _ _ (given_flag options flags left word words name no_end marked long flag.other flag.listed)
  start_flag word words name (Some value) no_end marked long flag starts position left are rows pending =
      turns.at_flag_value command rules idle position rows pending word name value words refl no_end long flag.long
      ∙ fine_none (settle_fault rules false (held rows pending))
      ∙ as_given rows pending _ _ (given_flag_value options flags left word words name value no_end marked long flag.other)

  start_unknown : (word : Text) (words : List Text) (name : Text) (value : Option Text) → bytes_eq word (codes "--") ≡ false → is_marked word ≡ true → long_of word ≡ Some (name, value)
      → IsUnknown rules options flags name → Starts (word ∷ words)
  start_unknown word words name value no_end marked long unknown position left are rows pending =
      turns.at_unknown command rules idle position rows pending word (name, value) words refl no_end long unknown.long
      ∙ fine_none (settle_fault rules false (held rows pending))
      ∙ as_given rows pending _ _ (given_unknown options flags left word words name value no_end marked long unknown.other unknown.unlisted)

  start_short : (word : Text) (words : List Text) → IsShort word → bytes_eq word (codes "--") ≡ false → is_marked word ≡ true → long_of word ≡ None → Starts (word ∷ words)
  start_short word words short no_end marked long position left are rows pending =
      turns.at_short command rules idle position rows pending word short.first short.rest short.letter words refl no_end long short.short short.begins (no_short short.letter)
      ∙ fine_none (settle_fault rules false (held rows pending)) ∙ as_given rows pending _ _ (given_short options flags left word words no_end marked long)

  start_option : (word : Text) (words : List Text) → IsUtf8 word → bytes_eq word (codes "--") ≡ false → is_marked word ≡ true → Starts words → Values words
      → (look : Option (Text × Option Text)) → long_of word ≡ look → Starts (word ∷ words)
  start_option word words text no_end marked starts values None long = start_short word words (short_word word text marked no_end long) no_end marked long
  start_option word words text no_end marked starts values (Some (name, value)) long =
      ⊎_elim (λ known. start_known word words name value no_end marked long known starts values)
      (λ others. ⊎_elim (λ flag. start_flag word words name value no_end marked long flag starts) (start_unknown word words name value no_end marked long) others) (found name)

  start_word : (word : Text) (words : List Text) → is_marked word ≡ false → Starts words → Starts (word ∷ words)
  start_word word words unmarked starts position [] none rows pending =
      let plain = plain_word word unmarked in
      turns.at_stray command rules position rows pending word words plain.no_end plain.no_long plain.no_short none
      ∙ fine_none (settle_fault rules false (held rows pending)) ∙ as_given rows pending _ _ (given_stray options flags [] word words plain.no_end unmarked)
  start_word word words unmarked starts position (name ∷ left) are rows pending =
      let plain = plain_word word unmarked in
      turns.at_word command rules position position rows pending word name words plain.no_end plain.no_long plain.no_short are.0
      ∙ ap (if_fine (settle_fault rules false (held rows pending)))
      (one_more name word None (Some position) true idle (min (position + 1) usize_max) false (settled_rows rules pending rows) words (given left options flags between words) are.1
      (starts (min (position + 1) usize_max) left are.2 (settled_rows rules pending rows) (Some (name, word ∷ []))))
      ∙ as_given rows pending _ _ (given_word options flags left word words name plain.no_end unmarked)

  start_end : (word : Text) (words : List Text) → bytes_eq word (codes "--") ≡ true → Starts (word ∷ words)
  start_end word words is position left are rows pending =
      turns.at_end command rules position rows pending word words is ∙ ends words idle position left are rows pending
      ∙ as_given rows pending _ _ (given_end options flags left word words is)

  start : (word : Text) (words : List Text) → IsUtf8 word → Starts words → Values words → Starts (word ∷ words)
  start word words text starts values =
      elim (bytes_eq word (codes "--")) as (λ b. bytes_eq word (codes "--") ≡ b → Starts (word ∷ words)) [
        | true ↦ start_end word words
        | false ↦ λ no_end.
            elim (is_marked word) as (λ b. is_marked word ≡ b → Starts (word ∷ words)) [
              | true ↦ λ marked. start_option word words text no_end marked starts values (long_of word) refl
              | false ↦ λ unmarked. start_word word words unmarked starts
            ]
            refl
      ]
      refl

  -- no value, where the word looks like an option
  no_value_end : (word : Text) (words : List Text) (name : Text) → IsKnown rules options name → (position : ℕ) (left : List Text) → AreLeft rules position left → (rows : List Row)
      → bytes_eq word (codes "--") ≡ true → outcome command rules (at (option name) position false rows (Some (name, []))) (word ∷ words) ≡ None
  no_value_end word words name known position left are rows is =
      turns.value_at_end command rules name position rows (Some (name, [])) word words is ∙ ends words (option name) position left are rows (Some (name, []))
      ∙ settle_open command rules rows name (Some name) None known.required _ known.id

  no_value_flag : (word : Text) (words : List Text) → bytes_eq word (codes "--") ≡ false → (name : Text) → IsKnown rules options name → (position : ℕ) (rows : List Row)
      → (other : Text) (value : Option Text) → long_of word ≡ Some (other, value) → IsFlag rules options flags other
      → outcome command rules (at (option name) position false rows (Some (name, []))) (word ∷ words) ≡ None
  no_value_flag word words no_end name known position rows other None long flag =
      turns.value_at_flag command rules name position rows word other known.required words no_end long flag.long known.id
  no_value_flag word words no_end name known position rows other (Some value) long flag =
      turns.at_flag_value command rules (option name) position rows (Some (name, [])) word other value words refl no_end long flag.long

  no_value_option : (word : Text) (words : List Text) → IsUtf8 word → bytes_eq word (codes "--") ≡ false → is_marked word ≡ true → (name : Text) → IsKnown rules options name
      → (position : ℕ) (rows : List Row) (look : Option (Text × Option Text)) → long_of word ≡ look
      → outcome command rules (at (option name) position false rows (Some (name, []))) (word ∷ words) ≡ None
  no_value_option word words text no_end marked name known position rows None long =
      let short = short_word word text marked no_end long in
      turns.at_short command rules (option name) position rows (Some (name, [])) word short.first short.rest short.letter words refl no_end long short.short short.begins (no_short short.letter)
  no_value_option word words text no_end marked name known position rows (Some (other, value)) long =
      ⊎_elim
      (λ (is : IsKnown rules options other). turns.value_at_option command rules name position rows word other value is.required known.required words no_end long is.long known.id)
      (λ others. ⊎_elim (λ (is : IsFlag rules options flags other). no_value_flag word words no_end name known position rows other value long is)
      (λ (is : IsUnknown rules options flags other). turns.at_unknown command rules (option name) position rows (Some (name, [])) word (other, value) words refl no_end long is.long) others)
      (found other)

  value_word : (word : Text) (words : List Text) → IsUtf8 word → Starts words → Values (word ∷ words)
  value_word word words text starts name known position left are rows =
      elim (is_marked word) as (λ b. is_marked word ≡ b
      → outcome command rules (at (option name) position false rows (Some (name, []))) (word ∷ words) ≡ taken rules (given left options flags (value_of name) (word ∷ words)) rows) [
        | true ↦ λ marked.
            elim (bytes_eq word (codes "--")) as (λ b. bytes_eq word (codes "--") ≡ b → outcome command rules (at (option name) position false rows (Some (name, []))) (word ∷ words) ≡ None) [
              | true ↦ no_value_end word words name known position left are rows
              | false ↦ λ no_end. no_value_option word words text no_end marked name known position rows (long_of word) refl
            ]
            refl
            ∙ ap (λ arguments. taken rules arguments rows) (given_no_value options flags left word words name marked)
        | false ↦ λ unmarked.
            let plain = plain_word word unmarked in
            turns.at_value command rules name position rows word known.required words plain.no_end plain.no_long plain.no_short known.id
            ∙ one_more name word (Some name) None known.required idle position false rows words (given left options flags between words) known.id
            (starts position left are rows (Some (name, word ∷ [])))
            ∙ ap (λ arguments. taken rules arguments rows) (given_value options flags left word words name unmarked)
      ]
      refl

  pub both : (words : List Text) → AreTexts words → Starts words × Values words
  unfolding walk_fault
  both [] texts = (λ position left are rows pending. refl, λ name known position left are rows. settle_open command rules rows name (Some name) None known.required _ known.id)
  both (word ∷ words) texts =
      let following = both words texts.1 in
      (start word words texts.0 following.0 following.1, value_word word words texts.0 following.0)
