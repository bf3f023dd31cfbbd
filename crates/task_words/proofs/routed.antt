mod WordsLemmas
