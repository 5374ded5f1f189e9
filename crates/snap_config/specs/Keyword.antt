-- The keywords of a configuration.
use Rattle.std.specs.Prelude.{ℕ, List, bytes_eq, codes, Option, None, Some, if◌then◌else◌}
use Rattle.snap_config.specs.declared.keyword.Keyword.{Keyword}
use Rattle.snap_config.specs.declared.keyword.Keyword.TheVariants.{Parity, Content, Data, Include, Exclude, NoHidden, BlockSize, HashSize, AutoSave, SplitSize, Unused, ZParity}

abbrev pub keyword_of : List ℕ → Option Keyword
keyword_of word =
    if bytes_eq word (codes "parity") then Some (Parity 0) else
    if bytes_eq word (codes "2-parity") then Some (Parity 1) else
    if bytes_eq word (codes "3-parity") then Some (Parity 2) else
    if bytes_eq word (codes "4-parity") then Some (Parity 3) else
    if bytes_eq word (codes "5-parity") then Some (Parity 4) else
    if bytes_eq word (codes "6-parity") then Some (Parity 5) else
    if bytes_eq word (codes "content") then Some Content else
    if bytes_eq word (codes "data") then Some Data else
    if bytes_eq word (codes "disk") then Some Data else
    if bytes_eq word (codes "include") then Some Include else
    if bytes_eq word (codes "exclude") then Some Exclude else
    if bytes_eq word (codes "nohidden") then Some NoHidden else
    if bytes_eq word (codes "blocksize") then Some BlockSize else
    if bytes_eq word (codes "hashsize") then Some HashSize else
    if bytes_eq word (codes "autosave") then Some AutoSave else
    if bytes_eq word (codes "splitsize") then Some SplitSize else
    if bytes_eq word (codes "pool") then Some Unused else
    if bytes_eq word (codes "share") then Some Unused else
    if bytes_eq word (codes "smartctl") then Some Unused else
    if bytes_eq word (codes "z-parity") then Some ZParity else
    None
