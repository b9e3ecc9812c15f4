-- The arguments of the commands as `clap` builds them, and how it finds them by their names.
use Rattle.std.proofs.Common.{◌≡◌, ◌∙◌, refl, sym, ap, subst, ℕ, Bool, true, false, cond, ◌||◌, ◌⊎◌, inl, inr, List, [], ◌∷◌, map, Option, Some, None, find}
use Rattle.std.specs.List.{list_any}
use Rattle.std.specs.Option.{is_some, option_map}
use Rattle.std.specs.Str.{bytes_eq}
use Rattle.std.proofs.lemmas.Bool.{true≢false}
use Rattle.std.proofs.lemmas.Slice.Eq.{bytes_eq-Decides}
use Rattle.std.proofs.Math.Bool.{or-false}
use Rattle.std.proofs.lemmas.Option.{same_Some}
use Rattle.clap.specs.Walk.{Rule, Text, arg_by_id, arg_by_long}
use Rattle.clap.specs.declared.builder.action.ArgAction.TheVariants.{Set}
use Rattle.clap.specs.declared.builder.value_parser.ValueParser.TheVariants as parser
use Rattle.md_args.specs.Given.{has_name}

-- an argument that takes one value
abbrev pub single : Text → Option Text → Option ℕ → Bool → Rule
single id long index required =
    record {
      id = id;
      long = long;
      aliases = [];
      short = None;
      short_aliases = [];
      index = index;
      action = Some Set;
      range = Some (record { start_inclusive = 1; end_inclusive = 1 });
      value_names = 0;
      defaults = [];
      missing = [];
      trailing_var_arg = false;
      parser = Some parser.String;
      ignore_case = false;
      required = required;
      is_simple = true;
      is_free = true;
    }

-- an option, by its name and whether it has to be there
abbrev pub option_rule : Text × Bool → Rule
option_rule option = single option.0 (Some option.0) None option.1

-- a flag, by its name: it takes no value, and its value is then empty
abbrev pub flag_rule : Text → Rule
flag_rule name =
    record (single name (Some name) None false) {
      range = Some (record { start_inclusive = 0; end_inclusive = 0 });
      missing = [] ∷ [];
    }

-- a positional word that has to be there, by its name and its place
abbrev pub word_rule : Text → ℕ → Rule
word_rule name place = single name None (Some place) true

-- the name is an option's, which `clap` finds
pub record IsKnown (rules : List Rule) (options : List Text) (name : Text) : Type 0 where
  pub required : Bool
  pub long : arg_by_long rules name ≡ Some (single name (Some name) None required)
  pub id : arg_by_id rules name ≡ Some (single name (Some name) None required)
  pub listed : list_any (has_name name) options ≡ true

-- the name is a flag's, which `clap` finds
pub record IsFlag (rules : List Rule) (options flags : List Text) (name : Text) : Type 0 where
  pub long : arg_by_long rules name ≡ Some (flag_rule name)
  pub other : list_any (has_name name) options ≡ false
  pub listed : list_any (has_name name) flags ≡ true

pub record IsUnknown (rules : List Rule) (options flags : List Text) (name : Text) : Type 0 where
  pub long : arg_by_long rules name ≡ None
  pub other : list_any (has_name name) options ≡ false
  pub unlisted : list_any (has_name name) flags ≡ false

-- every name is one of these
abbrev pub AreFound : List Rule → List Text → List Text → Type 0
AreFound rules options flags = (name : Text) → IsKnown rules options name ⊎ (IsFlag rules options flags name ⊎ IsUnknown rules options flags name)

abbrev is_named : Text → Text × Bool → Bool
is_named name option = bytes_eq option.0 name

-- each option is found by its name as the argument's own
abbrev pub HaveIds : List Rule → List (Text × Bool) → Type 0
HaveIds rules [] = Unit {0}
HaveIds rules (option ∷ options) = (arg_by_id rules option.0 ≡ Some (option_rule option)) × HaveIds rules options

long_among : (options : List (Text × Bool)) (name : Text) → arg_by_long (map option_rule options) name ≡ option_map option_rule (find (is_named name) options)
long_among [] name = refl
long_among (option ∷ options) name = rw (or-false (is_named name option)) (go (is_named name option) (long_among options name))
  where
    go : (b : Bool) → arg_by_long (map option_rule options) name ≡ option_map option_rule (find (is_named name) options)
        → cond b (Some (option_rule option)) (arg_by_long (map option_rule options) name)
        ≡ option_map option_rule (cond b (Some option) (find (is_named name) options))
    go true later = refl
    go false later = later

listed_among : (options : List (Text × Bool)) (name : Text) → list_any (has_name name) (map (λ option. option.0) options) ≡ is_some (find (is_named name) options)
listed_among [] name = refl
listed_among (option ∷ options) name = go (is_named name option) (listed_among options name)
  where
    go : (b : Bool) → list_any (has_name name) (map (λ option. option.0) options) ≡ is_some (find (is_named name) options)
        → (b || list_any (has_name name) (map (λ option. option.0) options)) ≡ is_some (cond b (Some option) (find (is_named name) options))
    go true later = refl
    go false later = later

pub some≢none : {X : Type 0} (x : X) → Some x ≡ None → ⊥
some≢none x is = true≢false (ap (λ o. is_some o) is)

-- the option that is found has the name and its own argument
id_among : (rules : List Rule) (options : List (Text × Bool)) (name : Text) (option : Text × Bool) → HaveIds rules options → find (is_named name) options ≡ Some option
    → (option.0 ≡ name) × (arg_by_id rules option.0 ≡ Some (option_rule option))
id_among rules [] name option have found = absurd (some≢none option (sym found))
id_among rules (first ∷ options) name option have found = go (is_named name first) refl found (id_among rules options name option have.1)
  where
    go : (b : Bool) → is_named name first ≡ b → cond b (Some first) (find (is_named name) options) ≡ Some option
        → (find (is_named name) options ≡ Some option → (option.0 ≡ name) × (arg_by_id rules option.0 ≡ Some (option_rule option)))
        → (option.0 ≡ name) × (arg_by_id rules option.0 ≡ Some (option_rule option))
    go true is here later =
        let same : first ≡ option = same_Some first option here in
        (ap (λ o. o.0) (sym same) ∙ (bytes_eq-Decides first.0 name).0 is, subst (λ o. arg_by_id rules o.0 ≡ Some (option_rule o)) same have.0)
    go false is here later = later here

-- a command whose one option is this flag
pub flag_found : (rules : List Rule) (flag : Text) → ((name : Text) → arg_by_long rules name ≡ arg_by_long (flag_rule flag ∷ []) name) → AreFound rules [] (flag ∷ [])
flag_found rules flag longs name = go (bytes_eq flag name) refl
  where
    go : (b : Bool) → bytes_eq flag name ≡ b → IsKnown rules [] name ⊎ (IsFlag rules [] (flag ∷ []) name ⊎ IsUnknown rules [] (flag ∷ []) name)
    go true is =
        let same : flag_rule flag ≡ flag_rule name = ap flag_rule ((bytes_eq-Decides flag name).0 is) in
        inr (inl (record { long = longs name ∙ rw (is) (ap Some same); other = refl; listed = rw (is) refl }))
    go false is = inr (inr (record { long = longs name ∙ rw (is) refl; other = refl; unlisted = rw (is) refl }))

-- a command of one flag and these options, each found by its own name
pub all_found : (rules : List Rule) (flag : Text) (options : List (Text × Bool)) → ((name : Text) → arg_by_long rules name ≡ arg_by_long (flag_rule flag ∷ map option_rule options) name)
    → list_any (has_name flag) (map (λ option. option.0) options) ≡ false → HaveIds rules options → AreFound rules (map (λ option. option.0) options) (flag ∷ [])
all_found rules flag options longs apart have name = split (bytes_eq flag name) refl
  where
    go : (o : Option (Text × Bool)) → find (is_named name) options ≡ o → bytes_eq flag name ≡ false
        → IsKnown rules (map (λ option. option.0) options) name
        ⊎ (IsFlag rules (map (λ option. option.0) options) (flag ∷ []) name ⊎ IsUnknown rules (map (λ option. option.0) options) (flag ∷ []) name)
    go None is other =
        inr
        (inr
        (record {
          long = longs name ∙ rw (other) (long_among options name ∙ ap (option_map option_rule) is);
          other = listed_among options name ∙ ap (λ o. is_some o) is;
          unlisted = rw (other) refl;
        }))
    go (Some option) is other =
        let own = id_among rules options name option have is in
        let rule_is : option_rule option ≡ single name (Some name) None option.1 = ap (λ n. single n (Some n) None option.1) own.0 in
        inl
        (record {
          required = option.1;
          long = longs name ∙ rw (other) (long_among options name ∙ ap (option_map option_rule) is ∙ ap Some rule_is);
          id = ap (arg_by_id rules) (sym own.0) ∙ own.1 ∙ ap Some rule_is;
          listed = listed_among options name ∙ ap (λ o. is_some o) is;
        })

    split : (b : Bool) → bytes_eq flag name ≡ b
        → IsKnown rules (map (λ option. option.0) options) name
        ⊎ (IsFlag rules (map (λ option. option.0) options) (flag ∷ []) name ⊎ IsUnknown rules (map (λ option. option.0) options) (flag ∷ []) name)
    split true is =
        let same : flag ≡ name = (bytes_eq-Decides flag name).0 is in
        inr
        (inl
        (record {
          long = longs name ∙ rw (is) (ap (λ n. Some (flag_rule n)) same);
          other = subst (λ n. list_any (has_name n) (map (λ option. option.0) options) ≡ false) same apart;
          listed = rw (is) refl;
        }))
    split false is = go (find (is_named name) options) refl is

-- a command whose options are these, each found by its own name
pub options_found : (rules : List Rule) (options : List (Text × Bool)) → ((name : Text) → arg_by_long rules name ≡ arg_by_long (map option_rule options) name) → HaveIds rules options
    → AreFound rules (map (λ option. option.0) options) []
options_found rules options longs have name = go (find (is_named name) options) refl
  where
    go : (o : Option (Text × Bool)) → find (is_named name) options ≡ o
        → IsKnown rules (map (λ option. option.0) options) name
        ⊎ (IsFlag rules (map (λ option. option.0) options) [] name ⊎ IsUnknown rules (map (λ option. option.0) options) [] name)
    go None is =
        inr
        (inr
        (record {
          long = longs name ∙ long_among options name ∙ ap (option_map option_rule) is;
          other = listed_among options name ∙ ap (λ o. is_some o) is;
          unlisted = refl;
        }))
    go (Some option) is =
        let own = id_among rules options name option have is in
        let rule_is : option_rule option ≡ single name (Some name) None option.1 = ap (λ n. single n (Some n) None option.1) own.0 in
        inl
        (record {
          required = option.1;
          long = longs name ∙ long_among options name ∙ ap (option_map option_rule) is ∙ ap Some rule_is;
          id = ap (arg_by_id rules) (sym own.0) ∙ own.1 ∙ ap Some rule_is;
          listed = listed_among options name ∙ ap (λ o. is_some o) is;
        })
