-- What the tokens of an operand are taken for.
use Rattle.std.specs.Prelude.{ℕ, List}
use Rattle.asm_z80.specs.declared.form.Form80.{Form80}
use Rattle.asm_z80.specs.declared.form.Form80.TheVariants as variants

-- an operand: none, a word, a word in brackets, one with a displacement, a number, one in brackets
pub data Form : Type 0 where
  Nothing : Form
  Worded : List ℕ → Form
  AtWord : List ℕ → Form
  Displaced : List ℕ → ℕ → Form
  Bare : ℕ → Form
  AtNumber : ℕ → Form

-- the code's, without where its word lies in memory
abbrev pub seen : Form80 → Form
seen variants.Nothing = Nothing
seen (variants.Worded word) = Worded word.now
seen (variants.AtWord word) = AtWord word.now
seen (variants.Displaced word by) = Displaced word.now by
seen (variants.Bare n) = Bare n
seen (variants.AtNumber n) = AtNumber n
