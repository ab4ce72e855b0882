mod OfOk
