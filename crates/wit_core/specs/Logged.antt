-- What a log keeps.
use Rattle.std.specs.Prelude.{◌+◌, ◌-◌, ◌≤◌, ◌≡◌, reverse, vec_len}
use Rattle.std.specs.Vec.{vec_capacity}
use Rattle.wit_model.specs.declared.sizes.TheConstants.Limits.{MOST_ENTRIES}
use Rattle.wit_model.specs.Rules.History.{reports_of}
use Rattle.wit_core.specs.Journal.{Journal}
use Rattle.wit_core.specs.declared.log.Log.TheInside.{Inside}

abbrev pub journal_in : Inside → Journal
journal_in l = record {
  limit = l.limit;
  history = reverse l.entries.items;
  owed = l.owed;
  spare = vec_capacity l.entries - (vec_len l.entries + l.owed);
}

-- what is owed fits the limit and the memory, beside the entries
pub record HasRest (l : Inside) : Type 0 where
  pub limit : l.limit ≤ MOST_ENTRIES
  pub fits : vec_len l.entries + l.owed ≤ l.limit
  pub memory : vec_len l.entries + l.owed ≤ vec_capacity l.entries
  pub reports : l.reports ≡ reports_of (reverse l.entries.items)
