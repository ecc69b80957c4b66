-- What is told at once.
use Rattle.std.specs.Prelude.{Bool, codes, if◌then◌else◌}
use Rattle.dpkg_words.specs.Options.{Text}

abbrev pub help_screen : Text
help_screen = codes "dpkg's words, carried out by coizkerra. Usage: [OPTION ..] ACTION\n\n  -i, --install FILE..    --unpack FILE..    archives, or directories as dpkg-deb -R makes them\n  --configure PKG..       --configure -a, --pending\n  --triggers-only PKG..   --triggers-only -a     the triggers that are pending, of all packages\n  -r, --remove PKG..      -P, --purge PKG..      -r -a, -P -a: what is selected to go\n  -s, --status PKG        -L, --listfiles PKG    -S, --search PATH\n  -l, --list [PATTERN..]                         the packages, as dpkg's table\n  -C, --audit             -V, --verify [PKG..]   --compare-versions A OP B\n  --set-selections        --get-selections       what is wanted of packages: PKG WANT\n  --clear-selections      all that are not essential are to go\n  --print-architecture    --print-foreign-architectures    --assert-FEATURE\n  -h, --help              --version\n\n  --root=DIR              the root; --instdir=DIR and --admindir=DIR where they name one\n  -B, --auto-deconfigure  installed packages may be deconfigured in favour of one that is unpacked\n  --no-act, --dry-run, --simulate\n                          the lines are told as if it were done, and nothing is changed\n  --no-triggers           triggers stay pending and aren't processed then; not so with --triggers\n  --status-fd=N           what is done with each package is told on this descriptor, and its states\n  --log=FILE              the same is added to FILE, with the time\n  --abort-after=N         behind N that failed no further one is begun; behind 50 if it isn't given\n  -E, --skip-same-version, -G, --refuse-downgrade, -O, --selected-only\n                          what of FILE.. is passed over\n  --force-confold, --force-confdef, --force-confnew, --force-confmiss\n  --force-depends         Depends and Pre-Depends are ignored where they can't be kept\n\nTaken, and without effect: other --force-X, which are told on standard error, other --refuse-X,\n--no-pager, --no-debsig, --status-logger, -D.\nWhat is printed are coizkerra's own lines: coizkerra help.\n"

-- The version of dpkg whose words these are: as dpkg tells it, or for a program alone.
abbrev pub version_of : Bool → Text
version_of robot = if robot then codes "1.21.22" else codes "Debian 'dpkg' package management program version 1.21.22 (amd64).\nThese are its words, which coizkerra carries out.\n"
