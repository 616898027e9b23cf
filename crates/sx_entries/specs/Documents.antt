-- Rule 3: the text is a document.
use Rattle.std.specs.Prelude.{ℕ, if◌then◌else◌, List, Option, Some, None, Result, Ok, Err}
use Rattle.std.specs.Str.{is_utf8}
use Rattle.toml.specs.Data.{Members}
use Rattle.toml.specs.Parse.{parse_document}
use Rattle.sx_entries.specs.Fault.{fault}
use Rattle.sx_entries.specs.declared.fault.Place.TheVariants.{Nowhere}
use Rattle.sx_entries.specs.declared.fault.DeployFault.{DeployFault}

-- rule 3: the document, or the fault of a text that is none
abbrev pub document_of : Option Members → Result Members DeployFault
document_of None = Err (fault 3 Nowhere)
document_of (Some t) = Ok t

-- the members of the document that the bytes are
abbrev pub table_of : List ℕ → Result Members DeployFault
table_of text = document_of (if is_utf8 text then parse_document text else None)
