-- Whether two calls are of one function.
use Rattle.std.specs.Prelude.{Bool, true, false, ◌&&◌}
use Rattle.wit_traced.specs.declared.contexts.Masked.{Masked}
use Rattle.wit_traced.specs.declared.contexts.Masked.TheVariants.{Nothing, Softirqs, All}
use Rattle.wit_traced.specs.declared.events.Call.{Call}
use Rattle.wit_traced.specs.declared.events.Deed.{Deed}
use Rattle.wit_traced.specs.declared.events.Deed.TheVariants.{Acquires, MayEnd, Tries, Releases}
use Rattle.wit_traced.specs.declared.events.Kind.{Kind}
use Rattle.wit_traced.specs.declared.events.Kind.TheVariants.{Spins, SpinsForReaders, Sleeps, Map}
use Rattle.wit_traced.specs.declared.events.Reading.{Reading}
use Rattle.wit_traced.specs.declared.events.Reading.TheVariants.{Writes, Reads, Again}

abbrev pub same_deed : Deed → Deed → Bool
same_deed Acquires Acquires = true
same_deed MayEnd MayEnd = true
same_deed Tries Tries = true
same_deed Releases Releases = true
same_deed _ _ = false

abbrev pub same_kind : Kind → Kind → Bool
same_kind Spins Spins = true
same_kind SpinsForReaders SpinsForReaders = true
same_kind Sleeps Sleeps = true
same_kind Map Map = true
same_kind _ _ = false

abbrev pub same_reading : Reading → Reading → Bool
same_reading Writes Writes = true
same_reading Reads Reads = true
same_reading Again Again = true
same_reading _ _ = false

abbrev pub same_masked : Masked → Masked → Bool
same_masked Nothing Nothing = true
same_masked Softirqs Softirqs = true
same_masked All All = true
same_masked _ _ = false

abbrev pub same_call : Call → Call → Bool
same_call a b =
    same_deed a.deed b.deed && (same_kind a.kind b.kind
    && (same_reading a.reading b.reading && same_masked a.masks b.masks))
