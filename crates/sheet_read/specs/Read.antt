-- What the code reads, as the records of `Grammar` and `Line` say it.
use Rattle.std.specs.Prelude.{ℕ, Bool, true, false, ◌&&◌, Option, None, Some, List, length, eqb}
use Rattle.knots.specs.declared.Form.{Form}
use Rattle.knots.specs.declared.Form.TheVariants.{Control}
use Rattle.sheet_read.specs.Grammar.{Section, Sheet, no_section}
use Rattle.sheet_read.specs.Line.{Line, no_line}
use Rattle.sheet_read.specs.declared.Section.{Section as SectionRead}
use Rattle.sheet_read.specs.declared.Sheet.{Sheet as SheetRead}
use Rattle.sheet_read.specs.declared.Parts.{Parts}

abbrev pub section_of : SectionRead → Section
section_of x = record { formed = true; count = x.count; start = x.start; next = x.next }

abbrev pub section_view : Option SectionRead → Section
section_view None = no_section
section_view (Some x) = section_of x

abbrev pub sheet_view : SheetRead → Sheet
sheet_view x =
    record { formed = true; form = x.form; points = section_of x.points; knots = section_of x.knots; parameters = section_of x.parameters }

abbrev pub line_view : Option ℕ → Line
line_view None = no_line
line_view (Some b) = record { formed = true; bits = b }

-- what the first line says, and control points where it says nothing
abbrev pub said : Option Form → Form
said None = Control
said (Some f) = f

abbrev pub says : Option Form → Bool
says None = false
says (Some f) = true

-- what stands of a sheet in the text s
abbrev pub parts_view : List ℕ → Parts → Sheet
parts_view s x =
    let points = section_view x.points in
    let knots = section_view x.knots in
    let parameters = section_view x.parameters in
    record {
      formed = says x.form && (points.formed && (knots.formed && (parameters.formed && eqb parameters.next (length s))));
      form = said x.form;
      points = points;
      knots = knots;
      parameters = parameters;
    }
