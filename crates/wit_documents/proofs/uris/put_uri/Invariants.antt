use Rattle.std.proofs.Common.{◌≡◌, ◌++◌, string_bytes, take}
use Rattle.std.specs.List.{flat_map}
use Rattle.wit_documents.specs.Escapes.{uri_byte}
use Rattle.wit_documents.proofs.uris.put_uri.Given as goal

abbrev pub invariant-loop-byte : goal.invariant-loop-byte
invariant-loop-byte l =
    string_bytes l.to ≡ string_bytes l.initial.to ++ flat_map uri_byte (take l.byte-index l.path)
