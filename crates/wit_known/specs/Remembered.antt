-- What is known as its callers see it.
use Rattle.std.specs.Prelude.{ℕ, ◌≡◌, length}
use Rattle.wit_model.specs.declared.sizes.TheConstants.Limits.{MOST_FILES}
use Rattle.wit_table.specs.Known.{live_of}
use Rattle.wit_known.specs.Known.{Facts}
use Rattle.wit_known.specs.Live.{live_count}
use Rattle.wit_known.specs.declared.known.Known.TheInside.{Inside}

abbrev pub facts_in : Inside → Facts
facts_in k = record {
  known = record {
    types = k.names.types;
    locks = k.locks.locks;
    orders = k.orders.orders;
    found = k.orders.found;
    blessed = k.names.blessed;
  };
  live = k.live.items;
  files = k.names.files;
  most_types = k.names.most_types;
  spare = k.orders.spare;
}

-- how many live locks each type has is how many of the locks are live and of it
abbrev pub AreCounted : Inside → Type 0
AreCounted k = (t : ℕ) → live_of k.names t ≡ live_count k.locks.locks k.live.items t

-- there may be orders between all types that there may be, and all numbers of files; and each lock
-- is live or not, which the counts of live locks know
pub record IsSized (k : Inside) : Type 0 where
  pub orders : k.orders.size ≡ k.names.most_types
  pub files : k.names.most_files ≡ MOST_FILES
  pub live : length k.live.items ≡ length k.locks.locks
  pub counts : AreCounted k
