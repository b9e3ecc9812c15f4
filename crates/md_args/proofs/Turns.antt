-- What one more word does to a parse by `clap`, of a command whose arguments take one value each.
use Rattle.std.proofs.Common.{◌≡◌, ◌∙◌, refl, ℕ, ◌+◌, Bool, true, false, cond, not, ◌&&◌, List, [], ◌∷◌, min, Option, Some, None}
use Rattle.std.proofs.Math.Bool.{and-false}
use Rattle.std.specs.Prelude.{fold, slice_get}
use Rattle.std.specs.List.{list_any}
use Rattle.std.specs.Str.{bytes_eq, chars}
use Rattle.std.proofs.lemmas.Slice.Eq.{bytes_eq-Decides}
use Rattle.clap.specs.Lexer.{long_of, short_of, usize_max}
use Rattle.clap.specs.Kinds.{Kinds, or_else}
use Rattle.clap.specs.Faults.{flags_fault, settle_fault, turn_fault, walk_fault}
use Rattle.clap.specs.Simple.{Shape, new_shape}
use Rattle.clap.specs.Takes.{is_given}
use Rattle.clap.specs.Walk.{Held, Row, Rule, Text, Waiting, Walk, arg_by_id, arg_by_index, arg_by_long, arg_by_short, has_row, idle, is_pending, option, settled_rows, subcommand_met, used, walked}
use Rattle.clap.specs.declared.error.kind.ErrorKind.TheVariants as kind
use Rattle.md_args.proofs.Lookups.{flag_rule, single, word_rule}

-- a command without subcommands, help or version, as `clap` builds it
abbrev pub shape : Text → List Rule → Shape
shape name rules =
    record (new_shape name) {
      rules = rules;
      no_binary_name = true;
      disable_help_flag = true;
      disable_help_subcommand = true;
      is_built = true;
    }

-- an outcome, where nothing failed before it
abbrev pub if_fine : Kinds → Option (List Row) → Option (List Row)
if_fine [] outcome = outcome
if_fine (kind ∷ kinds) outcome = None

pub fine_both : (first next : Kinds) (outcome : Option (List Row)) → if_fine (or_else first next) outcome ≡ if_fine first (if_fine next outcome)
fine_both [] next outcome = refl
fine_both (kind ∷ kinds) next outcome = refl

pub fine_none : (kinds : Kinds) → None ≡ if_fine kinds None
fine_none [] = refl
fine_none (kind ∷ kinds) = refl

-- what is required was not found
abbrev pub lacks : List Rule → List Row → Bool
lacks rules rows = list_any (λ rule. rule.required && not (is_given rule.id rows)) rules

-- the rows, where all is found that is required
abbrev pub complete : List Rule → List Row → Option (List Row)
complete rules rows = cond (lacks rules rows) None (Some rows)

abbrev pub held : List Row → Option (Text × List Text) → Held
held rows pending = record { rows = rows; pending = pending; skip = 0 }

-- a parse between two words
abbrev pub at : Waiting → ℕ → Bool → List Row → Option (Text × List Text) → Walk
at waiting position is_trailing rows pending =
    record { held = held rows pending; waiting = waiting; position = position; is_trailing = is_trailing; stopped = None }

-- the rows after a use of an argument with this value
abbrev pub added : Text → Text → List Row → List Row
added name value = used (single name None None false) (value ∷ [])

abbrev pub added_once : (List Row → Option (List Row)) → Text → Text → List Row → Option (List Row)
added_once next name value rows = cond (has_row name rows) None (next (added name value rows))

used_fine : (settle : Kinds) (has : Bool) (outcome : Option (List Row))
    → if_fine (or_else (or_else settle (or_else (cond (has && not false) (kind.ArgumentConflict ∷ []) []) [])) []) outcome ≡ if_fine settle (cond has None outcome)
used_fine [] true outcome = refl
used_fine [] false outcome = refl
used_fine (kind ∷ kinds) has outcome = refl

fresh_fine : (has : Bool) (outcome : Option (List Row)) → if_fine (or_else (cond (has && not false) (kind.ArgumentConflict ∷ []) []) []) outcome ≡ cond has None outcome
fresh_fine true outcome = refl
fresh_fine false outcome = refl

same_text : (text : Text) → bytes_eq text text ≡ true
same_text text = (bytes_eq-Decides text text).1 refl

module _ (name : Text) (rules : List Rule) where
  abbrev pub closed : Held → Option (List Row)
  closed end = if_fine (settle_fault rules false end) (complete rules (settled_rows rules end.pending end.rows))

  -- what is found in the end, if nothing fails
  abbrev pub outcome : Walk → List Text → Option (List Row)
  outcome w words = if_fine (walk_fault (shape name rules) [] w words) (closed (fold (walked rules []) w words).held)

  pub one_word : (w : Walk) (word : Text) (words : List Text) → outcome w (word ∷ words) ≡ if_fine (turn_fault (shape name rules) [] w word) (outcome (walked rules [] w word) words)
  unfolding walk_fault
  one_word w word words =
      fine_both (turn_fault (shape name rules) [] w word) (walk_fault (shape name rules) [] (walked rules [] w word) words) (closed (fold (walked rules []) w (word ∷ words)).held)

  -- `--`
  pub at_end : (position : ℕ) (rows : List Row) (pending : Option (Text × List Text)) (word : Text) (words : List Text)
      → bytes_eq word (45 ∷ 45 ∷ []) ≡ true → outcome (at idle position false rows pending) (word ∷ words) ≡ outcome (at idle position true rows pending) words
  unfolding walked
  at_end position rows pending word words is = one_word (at idle position false rows pending) word words ∙ rw (is) refl

  pub value_at_end : (id : Text) (position : ℕ) (rows : List Row) (pending : Option (Text × List Text)) (word : Text) (words : List Text)
      → bytes_eq word (45 ∷ 45 ∷ []) ≡ true → outcome (at (option id) position false rows pending) (word ∷ words) ≡ outcome (at (option id) position true rows pending) words
  unfolding walked
  value_at_end id position rows pending word words is = one_word (at (option id) position false rows pending) word words ∙ rw (is) refl

  -- an option with its value
  pub at_option : (position : ℕ) (rows : List Row) (pending : Option (Text × List Text)) (word id value : Text) (required : Bool) (words : List Text)
      → bytes_eq word (45 ∷ 45 ∷ []) ≡ false → long_of word ≡ Some (id, Some value) → arg_by_long rules id ≡ Some (single id (Some id) None required)
      → outcome (at idle position false rows pending) (word ∷ words)
      ≡ if_fine (settle_fault rules false (held rows pending)) (added_once (λ next. outcome (at idle position false next None) words) id value (settled_rows rules pending rows))
  unfolding walked
  at_option position rows pending word id value required words no_end long known =
      one_word (at idle position false rows pending) word words ∙ rw (no_end, long, known)
      (used_fine (settle_fault rules false (held rows pending)) (has_row id (settled_rows rules pending rows)) _)

  -- an option whose value is the next word
  pub at_open_option : (position : ℕ) (rows : List Row) (pending : Option (Text × List Text)) (word id : Text) (required : Bool) (words : List Text)
      → bytes_eq word (45 ∷ 45 ∷ []) ≡ false → long_of word ≡ Some (id, None) → arg_by_long rules id ≡ Some (single id (Some id) None required)
      → outcome (at idle position false rows pending) (word ∷ words)
      ≡ if_fine (settle_fault rules false (held rows pending)) (outcome (at (option id) position false (settled_rows rules pending rows) (Some (id, []))) words)
  unfolding walked
  at_open_option position rows pending word id required words no_end long known =
      one_word (at idle position false rows pending) word words ∙ rw (no_end, long, known) (fine_both (settle_fault rules false (held rows pending)) [] _)

  -- a flag
  pub at_flag : (position : ℕ) (rows : List Row) (pending : Option (Text × List Text)) (word id : Text) (words : List Text)
      → bytes_eq word (45 ∷ 45 ∷ []) ≡ false → long_of word ≡ Some (id, None) → arg_by_long rules id ≡ Some (flag_rule id)
      → outcome (at idle position false rows pending) (word ∷ words)
      ≡ if_fine (settle_fault rules false (held rows pending)) (added_once (λ next. outcome (at idle position false next None) words) id [] (settled_rows rules pending rows))
  unfolding walked
  at_flag position rows pending word id words no_end long known =
      one_word (at idle position false rows pending) word words ∙ rw (no_end, long, known)
      (used_fine (settle_fault rules false (held rows pending)) (has_row id (settled_rows rules pending rows)) _)

  -- a flag with a value
  pub at_flag_value : (waiting : Waiting) (position : ℕ) (rows : List Row) (pending : Option (Text × List Text)) (word id value : Text) (words : List Text)
      → subcommand_met [] waiting word ≡ None → bytes_eq word (45 ∷ 45 ∷ []) ≡ false → long_of word ≡ Some (id, Some value) → arg_by_long rules id ≡ Some (flag_rule id)
      → outcome (at waiting position false rows pending) (word ∷ words) ≡ None
  unfolding walked
  at_flag_value waiting position rows pending word id value words no_subcommand no_end long known =
      one_word (at waiting position false rows pending) word words ∙ rw (no_subcommand, no_end, long, known) refl

  -- a flag in place of a value
  pub value_at_flag : (id : Text) (position : ℕ) (rows : List Row) (word other : Text) (wanted : Bool) (words : List Text)
      → bytes_eq word (45 ∷ 45 ∷ []) ≡ false → long_of word ≡ Some (other, None) → arg_by_long rules other ≡ Some (flag_rule other)
      → arg_by_id rules id ≡ Some (single id (Some id) None wanted) → outcome (at (option id) position false rows (Some (id, []))) (word ∷ words) ≡ None
  unfolding walked
  value_at_flag id position rows word other wanted words no_end long known own =
      one_word (at (option id) position false rows (Some (id, []))) word words ∙ rw (no_end, long, known, own) refl

  -- an option that the command does not have
  pub at_unknown : (waiting : Waiting) (position : ℕ) (rows : List Row) (pending : Option (Text × List Text)) (word : Text) (given : Text × Option Text) (words : List Text)
      → subcommand_met [] waiting word ≡ None → bytes_eq word (45 ∷ 45 ∷ []) ≡ false → long_of word ≡ Some given → arg_by_long rules given.0 ≡ None
      → outcome (at waiting position false rows pending) (word ∷ words) ≡ None
  unfolding walked
  at_unknown waiting position rows pending word given words no_subcommand no_end long unknown =
      one_word (at waiting position false rows pending) word words ∙ rw (no_subcommand, no_end, long, unknown) refl

  -- an option in place of a value
  pub value_at_option : (id : Text) (position : ℕ) (rows : List Row) (word other : Text) (value : Option Text) (required wanted : Bool) (words : List Text)
      → bytes_eq word (45 ∷ 45 ∷ []) ≡ false → long_of word ≡ Some (other, value) → arg_by_long rules other ≡ Some (single other (Some other) None required)
      → arg_by_id rules id ≡ Some (single id (Some id) None wanted) → outcome (at (option id) position false rows (Some (id, []))) (word ∷ words) ≡ None
  unfolding walked
  value_at_option id position rows word other None required wanted words no_end long known own =
      one_word (at (option id) position false rows (Some (id, []))) word words ∙ rw (no_end, long, known, own) refl
  value_at_option id position rows word other (Some value) required wanted words no_end long known own =
      one_word (at (option id) position false rows (Some (id, []))) word words ∙ rw (no_end, long, known, own) refl

  -- a short option, of which the command has none
  pub at_short : (waiting : Waiting) (position : ℕ) (rows : List Row) (pending : Option (Text × List Text)) (word : Text) (first : ℕ) (rest : List ℕ) (letter : ℕ) (words : List Text)
      → subcommand_met [] waiting word ≡ None → bytes_eq word (45 ∷ 45 ∷ []) ≡ false → long_of word ≡ None → short_of word ≡ Some (first ∷ rest)
      → slice_get (chars (first ∷ rest)) 0 ≡ Some letter → arg_by_short rules letter ≡ None → outcome (at waiting position false rows pending) (word ∷ words) ≡ None
  unfolding walked flags_fault
  at_short waiting position rows pending word first rest letter words no_subcommand no_end no_long short begins unknown =
      one_word (at waiting position false rows pending) word words ∙ rw (no_subcommand, no_end, no_long, short, begins, unknown) refl

  -- a value
  pub at_value : (id : Text) (position : ℕ) (rows : List Row) (word : Text) (required : Bool) (words : List Text)
      → bytes_eq word (45 ∷ 45 ∷ []) ≡ false → long_of word ≡ None → short_of word ≡ None → arg_by_id rules id ≡ Some (single id (Some id) None required)
      → outcome (at (option id) position false rows (Some (id, []))) (word ∷ words) ≡ outcome (at idle position false rows (Some (id, word ∷ []))) words
  unfolding walked
  at_value id position rows word required words no_end no_long no_short own =
      one_word (at (option id) position false rows (Some (id, []))) word words ∙ rw (no_end, no_long, no_short, own, same_text id) refl

  -- a positional word
  pub at_word : (position place : ℕ) (rows : List Row) (pending : Option (Text × List Text)) (word id : Text) (words : List Text)
      → bytes_eq word (45 ∷ 45 ∷ []) ≡ false → long_of word ≡ None → short_of word ≡ None → arg_by_index rules position ≡ Some (word_rule id place)
      → outcome (at idle position false rows pending) (word ∷ words)
      ≡ if_fine (settle_fault rules false (held rows pending)) (outcome (at idle (min (position + 1) usize_max) false (settled_rows rules pending rows) (Some (id, word ∷ []))) words)
  unfolding walked
  at_word position place rows pending word id words no_end no_long no_short found =
      one_word (at idle position false rows pending) word words ∙ rw (no_end, no_long, no_short, found, and-false (is_pending (word_rule id place) pending)) refl

  pub at_stray : (position : ℕ) (rows : List Row) (pending : Option (Text × List Text)) (word : Text) (words : List Text)
      → bytes_eq word (45 ∷ 45 ∷ []) ≡ false → long_of word ≡ None → short_of word ≡ None → arg_by_index rules position ≡ None
      → outcome (at idle position false rows pending) (word ∷ words) ≡ None
  unfolding walked
  at_stray position rows pending word words no_end no_long no_short none = one_word (at idle position false rows pending) word words ∙ rw (no_end, no_long, no_short, none) refl

  -- the same after `--`
  pub end_at_word : (waiting : Waiting) (position place : ℕ) (rows : List Row) (pending : Option (Text × List Text)) (word id : Text) (words : List Text)
      → arg_by_index rules position ≡ Some (word_rule id place)
      → outcome (at waiting position true rows pending) (word ∷ words)
      ≡ if_fine (settle_fault rules false (held rows pending)) (outcome (at idle (min (position + 1) usize_max) true (settled_rows rules pending rows) (Some (id, word ∷ []))) words)
  unfolding walked
  end_at_word waiting position place rows pending word id words found =
      one_word (at waiting position true rows pending) word words ∙ rw (found, and-false (is_pending (word_rule id place) pending)) refl

  pub end_at_stray : (waiting : Waiting) (position : ℕ) (rows : List Row) (pending : Option (Text × List Text)) (word : Text) (words : List Text)
      → arg_by_index rules position ≡ None → outcome (at waiting position true rows pending) (word ∷ words) ≡ None
  unfolding walked
  end_at_stray waiting position rows pending word words none = one_word (at waiting position true rows pending) word words ∙ rw (none) refl

  -- what waits is used with its value, or has none
  pub settle_value : (rows : List Row) (id value : Text) (long : Option Text) (place : Option ℕ) (required : Bool) (next : List Row → Option (List Row))
      → arg_by_id rules id ≡ Some (single id long place required)
      → if_fine (settle_fault rules false (held rows (Some (id, value ∷ [])))) (next (settled_rows rules (Some (id, value ∷ [])) rows)) ≡ added_once next id value rows
  settle_value rows id value long place required next own = rw (own) (fresh_fine (has_row id rows) _)

  pub settle_open : (rows : List Row) (id : Text) (long : Option Text) (place : Option ℕ) (required : Bool) (found : Option (List Row))
      → arg_by_id rules id ≡ Some (single id long place required) → if_fine (settle_fault rules false (held rows (Some (id, [])))) found ≡ None
  settle_open rows id long place required found own = rw (own) refl
