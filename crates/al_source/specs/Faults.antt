-- What each fault is to the definitions: itself, but for want of memory.
use Rattle.std.specs.Prelude.{Option, Some, None}
use Rattle.al_source.specs.declared.faults.LexFault.{LexFault}
use Rattle.al_source.specs.declared.faults.LexFault.TheVariants as lex
use Rattle.al_source.specs.declared.faults.ParseFault.{ParseFault}
use Rattle.al_source.specs.declared.faults.ParseFault.TheVariants as parse

abbrev pub lexical : LexFault → Option LexFault
lexical lex.Memory = None
lexical fault = Some fault

-- a syntax fault is told by a value of the reader's
abbrev pub syntactic : {D : Type 0} → D → ParseFault → Option D
syntactic d parse.Syntax = Some d
syntactic d parse.Memory = None
