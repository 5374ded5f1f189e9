-- The first option with a bad value, by the values that are read in turn.
use Rattle.std.proofs.Common.{◌≡◌, ◌∙◌, ◌∷◌, [], ◌&&◌, ◌⊎◌, ◌<◌, ℕ, Bool, true, false, not, cond, List, Option, Some, None, map, length, ap, sym, refl, inl, inr, true≢false, Bor}
use Rattle.std.specs.List.{slice_index_or}
use Rattle.std.proofs.lemmas.List.Folds.{list_all-map, list_all_at}
use Rattle.clap.specs.Words.{Row, Text}
use Rattle.snap_config.specs.OptionValues.{IsFirstBad, IsPatternFault, IsValueFault, first_bad, first_option, is_bad}
use Rattle.array_setup.specs.Pattern.{is_pattern}
use Rattle.snap_config.specs.declared.option_table.CommandName.{CommandName}
use Rattle.snap_config.specs.declared.option_table.OptionName.{OptionName}
use Rattle.snap_config.specs.declared.option_table.OptionName.TheVariants.{Filter, Number, OlderThan, Plan, Readers, SaveEvery}
use Rattle.snap_config.specs.declared.options.WordsFault.{WordsFault}
use Rattle.snap_config.specs.declared.options.WordsFault.TheVariants.{Memory}

fails : (b : Bool) → not b ≡ true → b ≡ false
fails false e = refl
fails true e = absurd (true≢false (sym e))

alone : (b : Bool) → not (b && true) ≡ true → not b ≡ true
alone true e = e
alone false e = e

-- where one of the texts is no pattern, not all of them are
pub pattern_fault : (texts : List (Bor Text)) (i : ℕ) (d : Bor Text) (fault : WordsFault) → i < length texts
    → IsPatternFault ((slice_index_or texts i d).now ∷ []) fault
    → IsPatternFault (map (λ s. s.now) texts) fault
pattern_fault texts i d fault within (inl memory) = inl memory
pattern_fault texts i d fault within (inr value) = inr (record {
  is_bad = ap not (list_all-map is_pattern (λ (s : Bor Text). s.now) texts
      ∙ list_all_at (λ (s : Bor Text). is_pattern s.now) texts i d within (fails _ (alone _ value.is_bad)));
  row = value.row;
})

-- the first option whose value is bad, from each of those on whose values are read
abbrev from_number : CommandName → List Row → Option OptionName
from_number command m = cond (is_bad command Number m) (Some Number) None

abbrev from_readers : CommandName → List Row → Option OptionName
from_readers command m = cond (is_bad command Readers m) (Some Readers) (from_number command m)

abbrev from_save : CommandName → List Row → Option OptionName
from_save command m = cond (is_bad command SaveEvery m) (Some SaveEvery) (from_readers command m)

abbrev from_older : CommandName → List Row → Option OptionName
from_older command m = cond (is_bad command OlderThan m) (Some OlderThan) (from_save command m)

abbrev from_plan : CommandName → List Row → Option OptionName
from_plan command m = cond (is_bad command Plan m) (Some Plan) (from_older command m)

abbrev from_filter : CommandName → List Row → Option OptionName
from_filter command m = cond (is_bad command Filter m) (Some Filter) (from_plan command m)

module _ (command : CommandName) (m : List Row) where
  -- the search stops at an option whose value is bad
  stops : (option : OptionName) (later : Option OptionName) (fault : WordsFault)
      → first_bad command m ≡ cond (is_bad command option m) (Some option) later
      → IsValueFault option (is_bad command option m) fault
      → IsFirstBad command m fault
  stops option later fault here value = inr (option, here ∙ ap (λ b. cond b (Some option) later) value.is_bad, value.row)

  -- and goes past an option whose value is not
  passes : (option : OptionName) (later : Option OptionName)
      → first_bad command m ≡ cond (is_bad command option m) (Some option) later
      → is_bad command option m ≡ false
      → first_bad command m ≡ later
  passes option later here good = here ∙ ap (λ b. cond b (Some option) later) good

  at_filter : first_bad command m ≡ from_filter command m
  unfolding first_option
  at_filter = refl

  pub filter_fault : (fault : WordsFault) → (fault ≡ Memory) ⊎ IsValueFault Filter (is_bad command Filter m) fault → IsFirstBad command m fault
  filter_fault fault (inl memory) = inl memory
  filter_fault fault (inr value) = stops Filter (from_plan command m) fault at_filter value

  module _ (filter : is_bad command Filter m ≡ false) where
    at_plan : first_bad command m ≡ from_plan command m
    at_plan = passes Filter (from_plan command m) at_filter filter

    pub plan_fault : (fault : WordsFault) → IsValueFault Plan (is_bad command Plan m) fault → IsFirstBad command m fault
    plan_fault fault value = stops Plan (from_older command m) fault at_plan value

    module _ (plan : is_bad command Plan m ≡ false) where
      at_older : first_bad command m ≡ from_older command m
      at_older = passes Plan (from_older command m) at_plan plan

      pub older_fault : (fault : WordsFault) → IsValueFault OlderThan (is_bad command OlderThan m) fault → IsFirstBad command m fault
      older_fault fault value = stops OlderThan (from_save command m) fault at_older value

      module _ (older : is_bad command OlderThan m ≡ false) where
        at_save : first_bad command m ≡ from_save command m
        at_save = passes OlderThan (from_save command m) at_older older

        pub save_fault : (fault : WordsFault) → IsValueFault SaveEvery (is_bad command SaveEvery m) fault → IsFirstBad command m fault
        save_fault fault value = stops SaveEvery (from_readers command m) fault at_save value

        module _ (save : is_bad command SaveEvery m ≡ false) where
          at_readers : first_bad command m ≡ from_readers command m
          at_readers = passes SaveEvery (from_readers command m) at_save save

          pub readers_fault : (fault : WordsFault) → IsValueFault Readers (is_bad command Readers m) fault → IsFirstBad command m fault
          readers_fault fault value = stops Readers (from_number command m) fault at_readers value

          module _ (readers : is_bad command Readers m ≡ false) where
            at_number : first_bad command m ≡ from_number command m
            at_number = passes Readers (from_number command m) at_readers readers

            pub number_fault : (fault : WordsFault) → IsValueFault Number (is_bad command Number m) fault → IsFirstBad command m fault
            number_fault fault value = stops Number None fault at_number value

            pub none_bad : is_bad command Number m ≡ false → first_bad command m ≡ None
            none_bad number = passes Number None at_number number
