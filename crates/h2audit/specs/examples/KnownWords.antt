-- What the command line makes of words that a reader can follow by hand.
use Rattle.std.specs.Prelude.{◌≡◌, true, false, List, [], ◌∷◌, Option, None, Some, codes}
use Rattle.clap.specs.Words.{Text, fault_of, first_of, matches_of}
use Rattle.clap.specs.declared.error.kind.ErrorKind.TheVariants.{DisplayHelp, DisplayVersion, UnknownArgument}
use Rattle.clap.specs.declared.error.kind.ErrorKind.TheVariants.{ValueValidation}
use Rattle.h2audit.specs.code.Choices.{Choices, choices}
use Rattle.h2audit.specs.declared.command_line.options.Options.{Options}
use Rattle.h2audit.specs.Asked.{IsFound}
use Rattle.h2audit.specs.CommandLine.{app}

-- clap finds no fault in the words, these options and this path
abbrev pub AreFound : (words : List Text) → Choices → (path : Option Text) → Type 0
AreFound words asked path = (fault_of app words ≡ [])
    × ((options : Options) → choices options ≡ asked → IsFound (matches_of app words) options)
    × (first_of (codes "FILE") (matches_of app words) ≡ path)

pub record KnownWords : Type 0 where
  pub none : AreFound [] (record { workers = 4; groups = 16; block = 4096; frames_shown = false }) None
  pub all : AreFound
      (codes "--workers" ∷ codes "64" ∷ codes "--groups=1" ∷ codes "capture.pcap" ∷ codes "--frames"
      ∷ codes "--block" ∷ codes "1048576" ∷ [])
      (record { workers = 64; groups = 1; block = 1048576; frames_shown = true })
      (Some (codes "capture.pcap"))
  pub help : fault_of app (codes "--help" ∷ []) ≡ DisplayHelp ∷ []
  pub version : fault_of app (codes "--version" ∷ []) ≡ DisplayVersion ∷ []
  pub zero : fault_of app (codes "--workers" ∷ codes "0" ∷ []) ≡ ValueValidation ∷ []
  pub above : fault_of app (codes "--workers" ∷ codes "65" ∷ []) ≡ ValueValidation ∷ []
  pub unknown : fault_of app (codes "--unknown" ∷ []) ≡ UnknownArgument ∷ []
  pub second_path : fault_of app (codes "one.pcap" ∷ codes "two.pcap" ∷ []) ≡ UnknownArgument ∷ []
