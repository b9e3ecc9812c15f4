use Rattle.asm_laws.proofs.Forms.{form_size, has_fits}
use Rattle.asm_laws.proofs.Meant.{fits_has, size_form}
use Rattle.asm_laws.proofs.round_trip.forms_are_known.Goals as goal

pub returns : goal.returns
returns c = record { size = λ z80 line_tokens long. (size_form z80 line_tokens long, form_size z80 line_tokens long); fits = has_fits; fits_only = fits_has }
