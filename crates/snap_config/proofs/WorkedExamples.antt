-- Command lines, read by the definitions alone.
use Rattle.std.proofs.Common.{◌≡◌, List, [], ◌∷◌, Some, None, Ok, Err, Result, true, false, refl, codes}
use Rattle.clap.proofs.OnLiterals.{clap_on_literals}
use Rattle.clap.specs.Words.{Text}
use Rattle.snap_config.specs.FlatCommand.{matches_in, usage_faults}
use Rattle.snap_config.specs.OptionValues.{first_option}
use Rattle.snap_config.specs.Words.{reading, reading_among}
use Rattle.snap_config.specs.declared.option_table.CommandName.{CommandName}
use Rattle.snap_config.specs.declared.option_table.CommandName.TheVariants as names
use Rattle.snap_config.specs.declared.options.Command.TheVariants as commands
use Rattle.snap_config.specs.declared.options.Options.{Options}
use Rattle.array_setup.specs.declared.ways.ScrubPlan.TheVariants.{Full, Percent}
use Rattle.snap_config.specs.declared.options.WordsFault.{WordsFault}
use Rattle.snap_config.specs.declared.options.WordsFault.TheVariants.{Command, Unfit, Usage, Value}

abbrev all : List CommandName
all = names.Sync ∷ names.Scrub ∷ names.Check ∷ names.Fix ∷ names.Status ∷ names.List ∷ names.Dup ∷ names.Exercise ∷ []

abbrev line : List Text → Result Options WordsFault
line words = reading_among all (codes "snapraid" ∷ words)

-- an option of another command
sync_with_a_plan : line (codes "sync" ∷ codes "-p" ∷ codes "5" ∷ []) ≡ Err (Unfit 8 names.Sync)
unfolding clap_on_literals reading_among usage_faults matches_in first_option
sync_with_a_plan = refl

-- a number out of its bounds
too_many_percent : line (codes "scrub" ∷ codes "-p" ∷ codes "101" ∷ []) ≡ Err (Value 8)
unfolding clap_on_literals reading_among usage_faults matches_in first_option
too_many_percent = refl

-- an option that there is not
unknown_option : line (codes "sync" ∷ codes "--frob" ∷ []) ≡ Err Usage
unfolding clap_on_literals reading_among usage_faults matches_in first_option
unknown_option = refl

-- a word that is no command
unknown_word : line (codes "frob" ∷ []) ≡ Err (Command (codes "frob"))
unfolding clap_on_literals reading_among usage_faults matches_in first_option
unknown_word = refl

-- each command is built
scrub_is_built : reading (codes "snapraid" ∷ codes "scrub" ∷ []) ≡ line (codes "scrub" ∷ [])
unfolding clap_on_literals reading_among usage_faults matches_in first_option
scrub_is_built = refl

-- what holds where nothing is said
plain_scrub : line (codes "scrub" ∷ []) ≡ Ok (record {
  conf = codes "/etc/snapraid.conf";
  log = None;
  readers = 4;
  command = commands.Scrub (record { plan = Percent 8; older = 10 });
})
unfolding clap_on_literals reading_among usage_faults matches_in first_option
plain_scrub = refl

-- letters in one word, and a value behind an equals sign
short_and_long : line (codes "-Zcarray.conf" ∷ codes "sync" ∷ codes "--save-every=5" ∷ []) ≡ Ok (record {
  conf = codes "array.conf";
  log = None;
  readers = 4;
  command = commands.Sync (record { force_zero = true; force_empty = false; save_every = Some 5 });
})
unfolding clap_on_literals reading_among usage_faults matches_in first_option
short_and_long = refl

-- filters collect their values in order
two_filters : line (codes "fix" ∷ codes "-f" ∷ codes "*.txt" ∷ codes "-d" ∷ codes "d1" ∷ codes "-f" ∷ codes "/a/" ∷ codes "-d" ∷ codes "parity" ∷ codes "-m" ∷ []) ≡ Ok (record {
  conf = codes "/etc/snapraid.conf";
  log = None;
  readers = 4;
  command = commands.Fix (record {
    disks = codes "d1" ∷ codes "parity" ∷ [];
    patterns = codes "*.txt" ∷ codes "/a/" ∷ [];
    missing = true;
    errors = false;
  });
})
unfolding clap_on_literals reading_among usage_faults matches_in first_option
two_filters = refl

-- a check of the files alone
audit : line (codes "check" ∷ codes "-a" ∷ codes "-e" ∷ codes "--readers" ∷ codes "16" ∷ []) ≡ Ok (record {
  conf = codes "/etc/snapraid.conf";
  log = None;
  readers = 16;
  command = commands.Audit (record { disks = []; patterns = []; missing = false; errors = true });
})
unfolding clap_on_literals reading_among usage_faults matches_in first_option
audit = refl

-- a plan by its word, and the greatest number of days
full_plan : line (codes "scrub" ∷ codes "-pfull" ∷ codes "-o" ∷ codes "36500" ∷ []) ≡ Ok (record {
  conf = codes "/etc/snapraid.conf";
  log = None;
  readers = 4;
  command = commands.Scrub (record { plan = Full; older = 36500 });
})
unfolding clap_on_literals reading_among usage_faults matches_in first_option
full_plan = refl

-- nine digits with zeros at their front
leading_zeros : line (codes "scrub" ∷ codes "-p" ∷ codes "000000100" ∷ []) ≡ Ok (record {
  conf = codes "/etc/snapraid.conf";
  log = None;
  readers = 4;
  command = commands.Scrub (record { plan = Percent 100; older = 10 });
})
unfolding clap_on_literals reading_among usage_faults matches_in first_option
leading_zeros = refl

-- a value that is empty, or begins with a dash
empty_value : line (codes "list" ∷ codes "--conf=" ∷ codes "--log=-x" ∷ []) ≡ Ok (record {
  conf = [];
  log = Some (codes "-x");
  readers = 4;
  command = commands.List;
})
unfolding clap_on_literals reading_among usage_faults matches_in first_option
empty_value = refl

-- behind two dashes there are no options
behind_dashes : line (codes "-l" ∷ codes "x" ∷ codes "--" ∷ codes "list" ∷ []) ≡ Ok (record {
  conf = codes "/etc/snapraid.conf";
  log = Some (codes "x");
  readers = 4;
  command = commands.List;
})
unfolding clap_on_literals reading_among usage_faults matches_in first_option
behind_dashes = refl

-- an option twice
conf_twice : line (codes "list" ∷ codes "-c" ∷ codes "a" ∷ codes "-c" ∷ codes "b" ∷ []) ≡ Err Usage
unfolding clap_on_literals reading_among usage_faults matches_in first_option
conf_twice = refl

-- the array of a number, with an option between the command and the number
numbered_exercise : line (codes "exercise" ∷ codes "-l" ∷ codes "x" ∷ codes "7" ∷ []) ≡ Ok (record {
  conf = codes "/etc/snapraid.conf";
  log = Some (codes "x");
  readers = 4;
  command = commands.Exercise 7;
})
unfolding clap_on_literals reading_among usage_faults matches_in first_option
numbered_exercise = refl

-- an exercise without its number
no_number : line (codes "exercise" ∷ []) ≡ Err (Value 14)
unfolding clap_on_literals reading_among usage_faults matches_in first_option
no_number = refl

-- a number behind another command
number_of_a_list : line (codes "list" ∷ codes "7" ∷ []) ≡ Err (Unfit 14 names.List)
unfolding clap_on_literals reading_among usage_faults matches_in first_option
number_of_a_list = refl
