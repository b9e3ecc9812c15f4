-- What holds of every form that is read.
use Rattle.std.specs.Prelude.{◌<◌}
use Rattle.asm_m68k.specs.declared.form.Form.{Form}
use Rattle.asm_m68k.specs.declared.form.Form.TheVariants as forms

-- its registers are some that there are
abbrev pub IsForm : Form → Type 0
IsForm (forms.Register n) = n < 16
IsForm (forms.Indirect n) = n < 8
IsForm (forms.PostInc n) = n < 8
IsForm (forms.PreDec n) = n < 8
IsForm (forms.Displaced n by) = n < 8
IsForm (forms.Indexed n index long by) = (n < 8) × (index < 16)
IsForm (forms.PcIndexed index long by) = index < 16
IsForm form = Unit {0}
