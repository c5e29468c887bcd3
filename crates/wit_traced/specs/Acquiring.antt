-- What lockdep is told of an acquisition.
use Rattle.std.specs.Prelude.{ℕ, Bool, List}
use Rattle.wit_traced.specs.declared.events.Acquired.{Acquired}
use Rattle.wit_traced.specs.declared.events.Kind.{Kind}
use Rattle.wit_traced.specs.declared.events.Reading.{Reading}

pub record Acquiring : Type 0 where
  pub lock : ℕ
  pub key : List ℕ
  pub subclass : List ℕ
  pub name : List ℕ
  pub kind : Kind
  pub reading : Reading
  pub tried : Bool
  pub nested : Bool
  pub place : List ℕ

abbrev pub acquiring : Acquired → Acquiring
acquiring a = record {
  lock = a.lock;
  key = a.key.now;
  subclass = a.subclass.now;
  name = a.name.now;
  kind = a.kind;
  reading = a.reading;
  tried = a.tried;
  nested = a.nested;
  place = a.place.now;
}
