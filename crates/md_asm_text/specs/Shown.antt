-- A token without where its text lies in memory.
use Rattle.md_asm_text.specs.Tokens as tokens
use Rattle.md_asm_text.specs.declared.token.Token.{Token}
use Rattle.md_asm_text.specs.declared.token.Token.TheVariants as variants

abbrev pub shown : Token → tokens.Token
shown (variants.Word word) = tokens.Word word.now
shown (variants.Number n) = tokens.Number n
shown (variants.Name name) = tokens.Name name.now
shown (variants.Mark c) = tokens.Mark c
