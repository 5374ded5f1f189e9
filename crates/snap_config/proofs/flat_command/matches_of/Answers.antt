use Rattle.std.proofs.Common.{◌≡◌, ◌∙◌, [], ap, map, string_bytes, sym, subst, refl, true, inl, inr}
use Rattle.clap.specs.Words.{HasKind, Kinds, fault_of, is_simple, is_simple_and_free, matches_of}
use Rattle.clap.specs.declared.error.Error.{Error}
use Rattle.snap_config.specs.FlatCommand.{flat_app, matches_in, usage_faults}
use Rattle.snap_config.proofs.flat_command.matches_of.Goals as goal

flat_is_simple : is_simple flat_app ≡ true
flat_is_simple = refl

flat_is_free : is_simple_and_free flat_app ≡ true
flat_is_free = refl

pub returns-in-Ok-clause-taken : goal.returns-in-Ok-clause-taken
unfolding usage_faults
returns-in-Ok-clause-taken c =
    ap (λ app. fault_of app (map string_bytes c.args.words.now)) (sym c.in_ok-command.ensures)
    ∙ c.in-Ok.ensures.kinds (ap is_simple_and_free c.in_ok-command.ensures ∙ flat_is_free)

pub returns-in-Ok-clause-rows : goal.returns-in-Ok-clause-rows
unfolding matches_in
returns-in-Ok-clause-rows c =
    (c.in-Ok.ensures.matches (ap is_simple c.in_ok-command.ensures ∙ flat_is_simple)).0
    ∙ ap (λ app. matches_of app (map string_bytes c.args.words.now)) c.in_ok-command.ensures

-- an error of a kind that is none of these is want of memory
none_left : (kinds : Kinds) → kinds ≡ [] → (e : Error) → HasKind kinds e → HasKind [] e
none_left kinds none e has = subst (λ ks. HasKind ks e) none has

pub returns-in-Err-clause-refused : goal.returns-in-Err-clause-refused
unfolding usage_faults
returns-in-Err-clause-refused c =
    let kinds = c.in-Err.ensures.kinds (ap is_simple_and_free c.in_ok-command.ensures ∙ flat_is_free) in
    let same = ap (λ app. fault_of app (map string_bytes c.args.words.now)) c.in_ok-command.ensures in
    elim c.refusal_of.ensures [
      | inl memory ↦ inl memory
      | inr usage ↦ inr (
        usage.0,
        λ none. elim (none_left _ (same ∙ none) c.in-Err.error kinds) [
          | inl ran_out ↦ usage.1 (c.kind.ensures ∙ ran_out)
          | inr among ↦ absurd among
        ],
      )
    ]
