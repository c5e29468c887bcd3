-- What stands for a table and a verifier where none is named.
use Rattle.std.specs.Prelude.{[]}
use Rattle.atomic_table.specs.Seated.{TableId}
use Rattle.wit_model.specs.declared.profiles.Profile.TheVariants.{Plain}
use Rattle.wit_model.specs.Rules.Sizes.{sizes_of}
use Rattle.wit_model.specs.Rules.State.{Start, Story, fresh}

abbrev pub no_table : TableId
no_table =
    record {
      words = 0;
      slots = 0;
      views_name = 0;
      atom = 0;
      block = 0;
      offset = 0;
      slot_names = [];
    }

abbrev pub no_start : Start
no_start = record { sizes = sizes_of 0 0 0 0 0; lists = []; blessed = []; profile = Plain }

abbrev pub no_story : Story
no_story = fresh no_start
