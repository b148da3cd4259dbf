-- `sheet_text::hex_digits` meets its contract.
use Rattle.std.proofs.Common.{◌-◌, ◌*◌, ◌/◌, ◌%◌, ◌^◌, rules}
use Rattle.sheet_read.specs.Number.{glyph}
use Rattle.sheet_text.specs.Printed.{hex_text}
use Rattle.sheet_text.proofs.Made.{made_listed}
use Rattle.sheet_text.proofs.hex_digits.Goals as goal

pub returns : goal.returns
unfolding hex_text
returns c = made_listed _ (λ i. glyph (c.args.b / 2 ^ (60 - 4 * i) % 16)) _ (λ i y q k. search rules) 16 _ c.from_fn.ensures.items 0
