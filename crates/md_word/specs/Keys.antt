-- The order of keys.
use Rattle.std.specs.Prelude.{Bool, ◌==◌, nat_lt, ◌&&◌, ◌||◌}
use Rattle.md_word.specs.declared.key.Key.{Key}

-- whether one key comes before another: by cycle, then by chip
abbrev pub key_lt : Key → Key → Bool
key_lt a b = nat_lt a.cycle b.cycle || (a.cycle == b.cycle && nat_lt a.chip b.chip)
